use Rattle.std.proofs.Common.{◌≡◌, ◌<◌}
use Rattle.semantics.specs.Tree.{fits}
use Rattle.classes.proofs.Climbs.{listed}
use Rattle.classes.proofs.climbing.ClimbingClassTable.fits.Given as goal

abbrev pub invariant-loop-at : goal.invariant-loop-at
invariant-loop-at l = (l.at < l.self.count) × (fits (listed l.self) l.at l.b ≡ fits (listed l.self) l.a l.b)

abbrev pub decreases-loop-at : goal.decreases-loop-at
decreases-loop-at l = l.at
