-- What a script means: the lines that are left to be played.
use Rattle.std.specs.Prelude.{List, map}
use Rattle.hosts.specs.declared.script.Cue.{Cue}
use Rattle.hosts.specs.declared.script.Script.{Script}
use Rattle.semantics.specs.Hosts.{Line}

abbrev pub line_of : Cue → Line
line_of c = record { name = c.name; value = c.value }

abbrev pub lines_of : List Cue → List Line
lines_of cs = map line_of cs

abbrev pub lines_left : Script → List Line
lines_left s = lines_of s.left.now
