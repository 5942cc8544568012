-- Rows joined cell by cell: the least row that both fit, and lighter where joining alters a row.
use Rattle.std.proofs.Common.{◌≡◌, ℕ, zero, suc, ◌+◌, ◌*◌, ◌<◌, ◌≤◌, true, false, List, [], ◌∷◌, length, refl, ap, subst, ap₂, inl, inr, arith}
use Rattle.std.proofs.lemmas.Bool.{and_parts, and_from, eqb-true, eq-eqb, both_ways, cases_lt}
use Rattle.semantics.specs.Check.{zeros}
use Rattle.semantics.specs.Fill.{join_rows}
use Rattle.semantics.specs.NewRows.{same_list}
use Rattle.semantics.specs.Passes.{RowFits}
use Rattle.semantics.specs.Rows.{none, cell}
use Rattle.semantics.specs.Tree.{here, Tree, depth}
use Rattle.semantics.proofs.RuleTests.{fits_length}
use Rattle.semantics.proofs.TreeOrder.{up_left, up_right, up_trans}
use Rattle.semantics.proofs.TreeJoin.{join_least, up_depth, up_depth_same}

-- a row of present classes, of the width n
abbrev pub Whole : List ℕ → ℕ → List ℕ → Type 0
Whole ps n ts = RowFits ps ts ts × (length ts ≡ n)

-- how far the classes of a row can still rise
abbrev pub row_weight : List ℕ → List ℕ → ℕ
row_weight ps [] = 0
row_weight ps (x ∷ xs) = depth ps x + row_weight ps xs

pub same_list_lem : (xs ys : List ℕ) → same_list xs ys ≡ true → xs ≡ ys
same_list_lem [] [] e = refl
same_list_lem [] (y ∷ ys) e = absurd (both_ways _ refl e)
same_list_lem (x ∷ xs) [] e = absurd (both_ways _ refl e)
same_list_lem (x ∷ xs) (y ∷ ys) e = let p = and_parts _ _ e in ap₂ (λ (z : ℕ) (zs : List ℕ). z ∷ zs) (eqb-true x y p.0) (same_list_lem xs ys p.1)

list_same : (xs : List ℕ) → same_list xs xs ≡ true
list_same [] = refl
list_same (x ∷ xs) = and_from _ _ (eq-eqb x x refl) (list_same xs)

pub list_differs : (xs ys : List ℕ) → same_list xs ys ≡ false → xs ≡ ys → ⊥
list_differs xs ys e s = both_ways _ e (subst (λ (zs : List ℕ). same_list xs zs ≡ true) s (list_same xs))

module _ (ps : List ℕ) where
  pub fits_left : {xs ys : List ℕ} → RowFits ps xs ys → RowFits ps xs xs
  fits_left none = none
  fits_left (cell u e) = cell (here (up_left u)) (fits_left e)

  pub fits_right : {xs ys : List ℕ} → RowFits ps xs ys → RowFits ps ys ys
  fits_right none = none
  fits_right (cell u e) = cell (here (up_right u)) (fits_right e)

  pub fits_further : {xs ys zs : List ℕ} → RowFits ps xs ys → RowFits ps ys zs → RowFits ps xs zs
  fits_further none none = none
  fits_further (cell u e) (cell v f) = cell (up_trans u v) (fits_further e f)

  pub whole_above : {n : ℕ} {xs ys : List ℕ} → Whole ps n xs → RowFits ps xs ys → Whole ps n ys
  whole_above w e = let l = fits_length e in let k = w.1 in (fits_right e, omega arith)

module _ (ps : List ℕ) (t : Tree ps) where
  pub whole_zeros : (n : ℕ) → Whole ps n (zeros n)
  whole_zeros zero = (none, refl)
  whole_zeros (suc n) = let r = whole_zeros n in (cell (here t.some) r.0, ap suc r.1)

  pub fits_joined : {n : ℕ} (xs ys : List ℕ) → Whole ps n xs → Whole ps n ys → RowFits ps xs (join_rows ps xs ys) × RowFits ps ys (join_rows ps xs ys)
  fits_joined xs ys w v = go xs ys w.0 v.0 (let a = w.1 in let b = v.1 in omega arith)
    where
      go : (xs ys : List ℕ) → RowFits ps xs xs → RowFits ps ys ys → length xs ≡ length ys → RowFits ps xs (join_rows ps xs ys) × RowFits ps ys (join_rows ps xs ys)
      go [] [] e f h = (none, none)
      go [] (y ∷ ys) e f h = absurd (omega arith)
      go (x ∷ xs) [] e f h = absurd (omega arith)
      go (x ∷ xs) (y ∷ ys) (cell u e) (cell v f) h =
          let i = join_least ps t x y (up_left u) (up_left v) in
          let r = go xs ys e f (omega arith) in
          (cell i.left r.0, cell i.right r.1)

  pub joined_fits : {xs ys zs : List ℕ} → RowFits ps xs zs → RowFits ps ys zs → RowFits ps (join_rows ps xs ys) zs
  joined_fits none none = none
  joined_fits (cell {x = x} {y = z} u e) (cell {x = y} v f) = cell ((join_least ps t x y (up_left u) (up_left v)).least z u v) (joined_fits e f)

  pub fits_lighter : {xs ys : List ℕ} → RowFits ps xs ys → row_weight ps ys ≤ row_weight ps xs
  fits_lighter none = omega arith
  fits_lighter (cell {x = x} {y = y} u e) = let d : depth ps y ≤ depth ps x = up_depth ps t u in let r = fits_lighter e in omega arith

  fits_equal : {xs ys : List ℕ} → RowFits ps xs ys → row_weight ps xs ≤ row_weight ps ys → xs ≡ ys
  fits_equal none h = refl
  fits_equal (cell {x = x} {y = y} u e) h =
      let d : depth ps y ≤ depth ps x = up_depth ps t u in
      let r = fits_lighter e in
      ap₂ (λ (z : ℕ) (zs : List ℕ). z ∷ zs) (up_depth_same ps t x u (omega arith)) (fits_equal e (omega arith))

  -- a higher row that is another is lighter
  pub altered_lighter : {xs ys : List ℕ} → RowFits ps xs ys → same_list xs ys ≡ false → row_weight ps ys < row_weight ps xs
  altered_lighter {xs} {ys} e s =
      elim (cases_lt (row_weight ps ys) (row_weight ps xs)) [
        | inl h ↦ h
        | inr h ↦ absurd (list_differs xs ys s (fits_equal e h))
      ]

  pub row_light : {n : ℕ} (ts : List ℕ) → Whole ps n ts → row_weight ps ts ≤ 7 * n
  row_light ts w = go ts w.0 w.1
    where
      go : {n : ℕ} (ts : List ℕ) → RowFits ps ts ts → length ts ≡ n → row_weight ps ts ≤ 7 * n
      go [] e h = omega arith
      go (x ∷ xs) (cell u e) h = let d : depth ps x ≤ 7 = t.shallow x (up_left u) in let r = go xs e refl in omega arith
