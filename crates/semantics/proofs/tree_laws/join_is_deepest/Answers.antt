use Rattle.std.proofs.Common.{refl}
use Rattle.semantics.proofs.TreeOrder as order
use Rattle.semantics.proofs.TreeJoin as joins
use Rattle.semantics.proofs.tree_laws.join_is_deepest.Goals as goal

pub returns : goal.returns
returns c = λ ps t a b h k. let i = joins.join_least ps t a b h k in record {
  left = order.up_fits ps t i.left;
  right = order.up_fits ps t i.right;
  least = λ x p q. order.up_fits ps t (i.least x (order.fits_up ps t p) (order.fits_up ps t q));
  deepest = joins.join_deepest ps t a b _ h k refl;
  only = λ j d. joins.deepest_only ps t d;
}
