use Rattle.std.proofs.Common.{◌≤◌}
use Rattle.console.specs.Coming.{to_come}
use Rattle.console.proofs.play.Player.play_on.Given as goal

abbrev pub invariant-loop-line : goal.invariant-loop-line
invariant-loop-line g l = to_come l.self.lines ≤ to_come l.initial.self.lines

abbrev pub decreases-loop-line : goal.decreases-loop-line
decreases-loop-line g l = to_come l.self.lines
