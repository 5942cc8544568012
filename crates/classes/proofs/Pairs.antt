-- Rows of one length, paired cell by cell.
use Rattle.std.proofs.Common.{◌≡◌, ℕ, ◌&&◌, List, [], ◌∷◌, length, refl, ap, arith}
use Rattle.std.specs.List.{list_all, zip}
use Rattle.semantics.specs.Rows.{cell_fits, row_fits}

pub all_fit : {X Y : Type 0} (ps : List ℕ) (f : X → ℕ) (g : Y → ℕ) (xs : List X) (ys : List Y) → length xs ≡ length ys → list_all (λ (z : X × Y). cell_fits ps f g z.0 z.1) (zip xs ys) ≡ row_fits ps f g xs ys
all_fit ps f g [] [] l = refl
all_fit ps f g [] (y ∷ ys) l = absurd (omega arith)
all_fit ps f g (x ∷ xs) [] l = absurd (omega arith)
all_fit ps f g (x ∷ xs) (y ∷ ys) l = ap (λ r. cell_fits ps f g x y && r) (all_fit ps f g xs ys (omega arith))
