-- Rows of cells: rows of different length, a loop over both rows, and what fitting says.
use Rattle.std.proofs.Common.{◌≡◌, ℕ, suc, Bool, true, false, ◌&&◌, ◌⊎◌, List, [], ◌∷◌, length, Decides, sym, refl, ap, ◌∙◌, ap₂, inl, inr, arith}
use Rattle.std.proofs.lemmas.Bool.{and_right, false≢true}
use Rattle.std.proofs.lemmas.Bool.Decides.{Decides-and, Decides-at, Decides-like}
use Rattle.semantics.specs.Tree.{Up, Tree}
use Rattle.semantics.specs.Rows.{cell_fits, row_fits, FitsEach, none, cell}
use Rattle.semantics.proofs.TreeOrder.{fits_decides}

module _ {X Y : Type 0} (ps : List ℕ) (f : X → ℕ) (g : Y → ℕ) where
  pub row_differs : (xs : List X) (ys : List Y) → (length xs ≡ length ys → ⊥) → row_fits ps f g xs ys ≡ false
  row_differs [] [] n = absurd (n refl)
  row_differs [] (y ∷ ys) n = refl
  row_differs (x ∷ xs) [] n = refl
  row_differs (x ∷ xs) (y ∷ ys) n = and_right _ _ (row_differs xs ys (λ e. n (ap suc e)))

  -- a walk over both rows: what is left of them gives the answer
  module _ {x : X} {y : Y} {xs us : List X} {ys vs : List Y} (first : us ≡ x ∷ xs) (second : vs ≡ y ∷ ys) where
    turn : (r : Bool) → r ≡ cell_fits ps f g x y → row_fits ps f g us vs ≡ (r && row_fits ps f g xs ys)
    turn r e = ap₂ (row_fits ps f g) first second ∙ ap (λ (s : Bool). s && row_fits ps f g xs ys) (sym e)

    pub row_stop : (a : Bool) → false ≡ cell_fits ps f g x y → row_fits ps f g us vs ≡ a → false ≡ a
    row_stop a e inv = sym (turn false e) ∙ inv

    pub row_next : (a : Bool) → true ≡ cell_fits ps f g x y → row_fits ps f g us vs ≡ a → row_fits ps f g xs ys ≡ a
    row_next a e inv = sym (turn true e) ∙ inv

  pub row_end : (us : List X) (vs : List Y) (a : Bool) → length us ≡ length vs → (length us ≡ 0) ⊎ (length vs ≡ 0) → row_fits ps f g us vs ≡ a → true ≡ a
  row_end [] [] a l e inv = inv
  row_end [] (y ∷ ys) a l e inv = absurd (omega arith)
  row_end (x ∷ xs) [] a l e inv = absurd (omega arith)
  row_end (x ∷ xs) (y ∷ ys) a l (inl n) inv = absurd (omega arith)
  row_end (x ∷ xs) (y ∷ ys) a l (inr n) inv = absurd (omega arith)

  pub row_decides : Tree ps → (xs : List X) (ys : List Y) → Decides (row_fits ps f g xs ys) (FitsEach ps f g xs ys)
  row_decides t [] [] = (λ e. none, λ e. refl)
  row_decides t [] (y ∷ ys) = (λ e. absurd (false≢true e), λ e. elim e [ ])
  row_decides t (x ∷ xs) [] = (λ e. absurd (false≢true e), λ e. elim e [ ])
  row_decides t (x ∷ xs) (y ∷ ys) =
      Decides-like (cell_fits ps f g x y && row_fits ps f g xs ys) (λ p. cell p.0 p.1) parts
      (Decides-and (cell_fits ps f g x y) (row_fits ps f g xs ys) (fits_decides ps t (f x) (g y)) (row_decides t xs ys))
    where
      parts : FitsEach ps f g (x ∷ xs) (y ∷ ys) → Up ps (f x) (g y) × FitsEach ps f g xs ys
      parts (cell u e) = (u, e)

  -- an answer that is exact tells whether each cell fits
  pub row_told : Tree ps → (xs : List X) (ys : List Y) (r : Bool) → r ≡ row_fits ps f g xs ys → Decides r (FitsEach ps f g xs ys)
  row_told t xs ys r e = Decides-at r (row_fits ps f g xs ys) e (row_decides t xs ys)
