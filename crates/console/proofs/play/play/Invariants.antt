use Rattle.console.specs.Coming.{to_come}
use Rattle.console.proofs.play.play.Given as goal

abbrev pub decreases-loop-choice : goal.decreases-loop-choice
decreases-loop-choice l = to_come l.player.lines
