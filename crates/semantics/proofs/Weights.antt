-- The weight of a table: a row that comes to a label leaves all as it was, or makes the table lighter and tells so.
use Rattle.std.proofs.Common.{◌≡◌, ℕ, zero, suc, ◌+◌, ◌*◌, ◌<◌, ◌≤◌, Bool, true, false, ◌||◌, ◌⊎◌, List, [], ◌∷◌, length, set, replicate, Some, None, Option, sym, refl, ap, ◌∙◌, subst, inl, inr, arith}
use Rattle.std.proofs.lemmas.List.{set-get_or}
use Rattle.std.proofs.lemmas.Bool.{cases_Bool, or_right, not_from_true, not_from_false}
use Rattle.semantics.specs.Fill.{Table, row_in, join_rows, joined_into, alters, Sweep, comes, comes_to, falls_into}
use Rattle.semantics.specs.Methods.{Each}
use Rattle.semantics.specs.NewRows.{same_list}
use Rattle.semantics.specs.Passes.{RowFits}
use Rattle.semantics.specs.Tree.{Tree}
use Rattle.semantics.proofs.Coming.{RowsAre, comes_are, comes_long}
use Rattle.semantics.proofs.Joining.{Whole, row_weight, same_list_lem, whole_above, fits_joined, altered_lighter, row_light}

-- more than any row of 8 cells weighs, where a label has no row
abbrev pub option_weight : List ℕ → Option (List ℕ) → ℕ
option_weight ps None = 57
option_weight ps (Some r) = row_weight ps r

abbrev pub weight : List ℕ → Table → ℕ
weight ps [] = 0
weight ps (o ∷ t) = option_weight ps o + weight ps t

weight_set : (ps : List ℕ) (t : Table) (n : ℕ) (o : Option (List ℕ)) → n < length t → weight ps (set t n o) + option_weight ps (row_in t n) ≡ weight ps t + option_weight ps o
weight_set ps [] n o h = absurd (omega arith)
weight_set ps (x ∷ t) zero o h = omega arith
weight_set ps (x ∷ t) (suc n) o h = let r = weight_set ps t n o (omega arith) in omega arith

pub weight_none : (ps : List ℕ) (n : ℕ) → weight ps (replicate n None) ≡ 57 * n
weight_none ps zero = refl
weight_none ps (suc n) = let r = weight_none ps n in omega arith

-- b stands as a did, and X holds of the table; or b is lighter, and altered
abbrev pub Changed : List ℕ → (Table → Type 0) → Sweep → Sweep → Type 0
Changed ps X a b = ((b.table ≡ a.table) × (b.altered ≡ a.altered) × X a.table) ⊎ ((weight ps b.table < weight ps a.table) × (b.altered ≡ true))

pub changed_then : (ps : List ℕ) (X Y : Table → Type 0) (a b c : Sweep) → Changed ps X a b → Changed ps Y b c → Changed ps (λ t. X t × Y t) a c
changed_then ps X Y a b c (inl (e, f, x)) (inl (g, h, y)) = inl (g ∙ e, h ∙ f, (x, subst Y e y))
changed_then ps X Y a b c (inl (e, f, x)) (inr (w, h)) = inr (let l = ap (weight ps) e in omega arith, h)
changed_then ps X Y a b c (inr (w, f)) (inl (g, h, y)) = inr (let l = ap (weight ps) g in omega arith, h ∙ f)
changed_then ps X Y a b c (inr (w, f)) (inr (v, h)) = inr (omega arith, h)

pub changed_as : (ps : List ℕ) (X Y : Table → Type 0) (a b : Sweep) → (X a.table → Y a.table) → Changed ps X a b → Changed ps Y a b
changed_as ps X Y a b f (inl (e, g, x)) = inl (e, g, f x)
changed_as ps X Y a b f (inr w) = inr w

-- the label n has a row that ts fits; each label where a current row falls in has
abbrev pub FitsIn : List ℕ → List ℕ → Table → ℕ → Type 0
FitsIn ps ts t n = (r : List ℕ) × (row_in t n ≡ Some r) × RowFits ps ts r

abbrev pub Arrives : List ℕ → Option ℕ → Option (List ℕ) → Table → Type 0
Arrives ps None current t = Unit {0}
Arrives ps (Some n) None t = Unit {0}
Arrives ps (Some n) (Some ts) t = FitsIn ps ts t n

module _ (ps : List ℕ) (tree : Tree ps) (w : ℕ) (narrow : w ≤ 8) where
  into_changed : (ts : List ℕ) → Whole ps w ts → (o : Option (List ℕ)) → ((r : List ℕ) → o ≡ Some r → Whole ps w r)
      → ((Some (joined_into ps o ts) ≡ o) × (alters ps o ts ≡ false) × ((r : List ℕ) × (o ≡ Some r) × RowFits ps ts r))
      ⊎ ((row_weight ps (joined_into ps o ts) < option_weight ps o) × (alters ps o ts ≡ true))
  into_changed ts new None old = let l = row_light ps tree ts new in inr (omega arith, refl)
  into_changed ts new (Some r) old =
      let both = fits_joined ps tree r ts (old r refl) new in
      elim (cases_Bool (same_list r (join_rows ps r ts))) [
        | inl e ↦ (let same : r ≡ join_rows ps r ts = same_list_lem r (join_rows ps r ts) e in
            inl (ap Some (sym same), not_from_true _ e, (r, refl, subst (RowFits ps ts) (sym same) both.1)))
        | inr e ↦ inr (altered_lighter ps tree both.0 e, not_from_false _ e)
      ]

  or_same : (b c : Bool) → c ≡ false → (b || c) ≡ b
  or_same true c e = refl
  or_same false c e = e

  abbrev AllWhole : Table → Type 0
  AllWhole = RowsAre (λ n. Whole ps w)

  comes_changed : (ts : List ℕ) (n : ℕ) (s : Sweep) → n < length s.table → Whole ps w ts → AllWhole s.table → Changed ps (λ t. FitsIn ps ts t n) s (comes ps ts n s)
  comes_changed ts n s h new old =
      elim (into_changed ts new (row_in s.table n) (old n)) [
        | inl (e, f, x) ↦ inl (ap (set s.table n) e ∙ set-get_or s.table n None, or_same s.altered _ f, x)
        | inr (l, f) ↦ (let k = weight_set ps s.table n (Some (joined_into ps (row_in s.table n) ts)) h in inr (omega arith, or_right s.altered _ f))
      ]

  pub whole_joins : (n : ℕ) (r ts : List ℕ) → Whole ps w r → Whole ps w ts → Whole ps w (join_rows ps r ts)
  whole_joins n r ts old new = whole_above ps old (fits_joined ps tree r ts old new).0

  pub comes_to_changed : (ts ns : List ℕ) (s : Sweep) → Each (λ n. n < length s.table) ns → Whole ps w ts → AllWhole s.table → Changed ps (λ t. Each (FitsIn ps ts t) ns) s (comes_to ps ts ns s)
  comes_to_changed ts [] s h new old = inl (refl, refl, tt)
  comes_to_changed ts (n ∷ ns) s h new old =
      changed_then ps (λ t. FitsIn ps ts t n) (λ t. Each (FitsIn ps ts t) ns) s (comes ps ts n s) (comes_to ps ts ns (comes ps ts n s))
      (comes_changed ts n s h.0 new old)
      (comes_to_changed ts ns (comes ps ts n s) (rw (comes_long ps ts n s) h.1) new (comes_are ps (λ n. Whole ps w) whole_joins ts n s h.0 new old))

  pub falls_changed : (label : Option ℕ) (current : Option (List ℕ)) (s : Sweep) → ((n : ℕ) → label ≡ Some n → n < length s.table)
      → ((ts : List ℕ) → current ≡ Some ts → Whole ps w ts) → AllWhole s.table → Changed ps (Arrives ps label current) s (falls_into ps label current s)
  falls_changed None current s h new old = inl (refl, refl, tt)
  falls_changed (Some n) None s h new old = inl (refl, refl, tt)
  falls_changed (Some n) (Some ts) s h new old = comes_changed ts n s (h n refl) (new ts refl) old
