-- What a call means whose numbers all stand in the line, and which host answers at first.
use Rattle.semantics.specs.Calls.{CallDef, class, native, start, go}
use Rattle.semantics.specs.Cards.{signature}
use Rattle.console.specs.declared.choice.Choice.{Choice}
use Rattle.console.specs.declared.choice.Choice.TheVariants.{Switch}
use Rattle.console.specs.declared.choice.First.TheVariants as first
use Rattle.console.specs.declared.choice.Second.TheVariants as second
use Rattle.console.specs.declared.command.Request.{Request}
use Rattle.console.specs.declared.command.Request.TheVariants as request

abbrev pub request_of : Request → CallDef
request_of (request.Class p) = class p
request_of (request.Native c m as' r) = native (signature c m as'.items r)
request_of (request.Start v m vs) = start v m vs.items
request_of (request.Go n) = go n

-- numbers below name 128, and cells from there on
abbrev pub standard : Choice
standard = Switch first.Numbers second.Cells
