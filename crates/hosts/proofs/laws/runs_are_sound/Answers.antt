use Rattle.semantics.proofs.PromiseHolds.{promise_holds}
use Rattle.hosts.proofs.laws.runs_are_sound.Goals as goal

pub returns : goal.returns
returns g c = λ kind calls. promise_holds kind g.H.Host.reply (g.H.Host.condition c.args.host.now) calls
