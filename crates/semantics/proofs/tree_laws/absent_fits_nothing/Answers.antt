use Rattle.std.proofs.Common.{inl, inr}
use Rattle.semantics.proofs.TreeOrder as order
use Rattle.semantics.proofs.TreeJoin as joins
use Rattle.semantics.proofs.tree_laws.absent_fits_nothing.Goals as goal

pub returns : goal.returns
returns c = λ ps a h. record {
  fits_nothing = λ b. order.absent_fits ps a b h;
  fitted_by_none = λ b. order.fits_absent ps b a h;
  joins_left = λ b. joins.join_absent ps a b (inl h);
  joins_right = λ b. joins.join_absent ps b a (inr h);
}
