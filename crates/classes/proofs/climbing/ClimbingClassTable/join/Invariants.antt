use Rattle.std.proofs.Common.{◌≡◌, ◌+◌, ◌<◌}
use Rattle.semantics.specs.Tree.{join}
use Rattle.classes.proofs.Climbs.{listed}
use Rattle.classes.proofs.climbing.ClimbingClassTable.join.Given as goal

abbrev pub invariant-loop-x : goal.invariant-loop-x
invariant-loop-x l =
    (l.x < l.self.count) × (l.y < l.self.count)
    × (join (listed l.self) l.x l.y ≡ join (listed l.self) l.a l.b)

abbrev pub decreases-loop-x : goal.decreases-loop-x
decreases-loop-x l = l.x + l.y
