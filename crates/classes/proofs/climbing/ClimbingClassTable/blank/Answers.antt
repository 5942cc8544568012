use Rattle.std.proofs.Common.{refl, arith}
use Rattle.semantics.proofs.TreeOrder.{tree_shape}
use Rattle.semantics.proofs.TreeGrowth.{blank_tree}
use Rattle.classes.proofs.climbing.ClimbingClassTable.blank.Goals as goal

pub invariant_of-result : goal.invariant_of-result
invariant_of-result c = record { few = omega arith; long = refl; tree = tree_shape blank_tree }
