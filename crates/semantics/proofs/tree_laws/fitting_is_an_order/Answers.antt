use Rattle.semantics.proofs.TreeOrder as order
use Rattle.semantics.proofs.tree_laws.fitting_is_an_order.Goals as goal

pub returns : goal.returns
returns c = λ ps t. record {
  goes_up = λ a b. order.fits_up ps t;
  going_up = λ a b. order.up_fits ps t;
  itself = order.fits_same ps t;
  further = λ a b c' p q. order.up_fits ps t (order.up_trans (order.fits_up ps t p) (order.fits_up ps t q));
  one_way = λ a b p q. order.up_antisym ps t (order.fits_up ps t p) (order.fits_up ps t q);
  top = λ a h. order.up_fits ps t (order.up_root ps t a h);
  comparable = λ a b c' p q. order.fits_comparable ps t (order.fits_up ps t p) (order.fits_up ps t q);
}
