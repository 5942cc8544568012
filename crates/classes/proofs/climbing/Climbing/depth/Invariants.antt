use Rattle.std.proofs.Common.{◌≡◌, ◌+◌, ◌<◌}
use Rattle.semantics.specs.Tree.{depth}
use Rattle.classes.proofs.Climbs.{listed}
use Rattle.classes.proofs.climbing.Climbing.depth.Given as goal

abbrev pub invariant-loop-at : goal.invariant-loop-at
invariant-loop-at l = (l.at < l.self.count) × (l.steps + depth (listed l.self) l.at ≡ depth (listed l.self) l.class)

abbrev pub decreases-loop-at : goal.decreases-loop-at
decreases-loop-at l = l.at
