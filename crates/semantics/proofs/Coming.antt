-- Rows that come to labels: what the rows of a table are stays so, and the table stays as long.
use Rattle.std.proofs.Common.{◌≡◌, ℕ, suc, ◌<◌, List, [], ◌∷◌, length, Some, None, Option, sym, refl, ◌∙◌, inl, inr, length-set}
use Rattle.std.proofs.lemmas.List.{get_or-set_same, get_or-set_other}
use Rattle.std.proofs.lemmas.Bool.{cases_eq}
use Rattle.semantics.specs.Fill.{Table, row_in, join_rows, joined_into, Sweep, comes, comes_to, falls_into}
use Rattle.semantics.specs.Methods.{Each}
use Rattle.semantics.specs.Lists.{At, here, there}
use Rattle.semantics.proofs.Arrivals.{same_some}

pub each_from : {X : Type 0} (P : X → Type 0) (xs : List X) → ((k : ℕ) (x : X) → At xs k x → P x) → Each P xs
each_from P [] all = tt
each_from P (x ∷ xs) all = (all 0 x here, each_from P xs (λ k y a. all (suc k) y (there a)))

-- P holds of every row that a label has, with the label's number
abbrev pub RowsAre : (ℕ → List ℕ → Type 0) → Table → Type 0
RowsAre P t = (n : ℕ) (r : List ℕ) → row_in t n ≡ Some r → P n r

module _ (ps : List ℕ) where
  pub comes_long : (ts : List ℕ) (n : ℕ) (s : Sweep) → length (comes ps ts n s).table ≡ length s.table
  comes_long ts n s = length-set s.table n _

  pub comes_to_long : (ts ns : List ℕ) (s : Sweep) → length (comes_to ps ts ns s).table ≡ length s.table
  comes_to_long ts [] s = refl
  comes_to_long ts (n ∷ ns) s = comes_to_long ts ns (comes ps ts n s) ∙ comes_long ts n s

  pub falls_long : (label : Option ℕ) (current : Option (List ℕ)) (s : Sweep) → length (falls_into ps label current s).table ≡ length s.table
  falls_long None current s = refl
  falls_long (Some n) None s = refl
  falls_long (Some n) (Some ts) s = comes_long ts n s

  pub comes_to_missed : (ts ns : List ℕ) (s : Sweep) → (comes_to ps ts ns s).missed ≡ s.missed
  comes_to_missed ts [] s = refl
  comes_to_missed ts (n ∷ ns) s = comes_to_missed ts ns (comes ps ts n s)

  pub falls_missed : (label : Option ℕ) (current : Option (List ℕ)) (s : Sweep) → (falls_into ps label current s).missed ≡ s.missed
  falls_missed None current s = refl
  falls_missed (Some n) None s = refl
  falls_missed (Some n) (Some ts) s = refl

  -- where P goes over to joined rows
  module _ (P : ℕ → List ℕ → Type 0) (joins : (n : ℕ) (r ts : List ℕ) → P n r → P n ts → P n (join_rows ps r ts)) where
    into_is : (n : ℕ) (ts : List ℕ) (o : Option (List ℕ)) → ((r : List ℕ) → o ≡ Some r → P n r) → P n ts → P n (joined_into ps o ts)
    into_is n ts None old new = new
    into_is n ts (Some r) old new = joins n r ts (old r refl) new

    pub comes_are : (ts : List ℕ) (n : ℕ) (s : Sweep) → n < length s.table → P n ts → RowsAre P s.table → RowsAre P (comes ps ts n s).table
    comes_are ts n s h new old k r e =
        elim (cases_eq k n) [
          | inl same ↦ rw (same, ← same_some (sym (get_or-set_same s.table n (Some (joined_into ps (row_in s.table n) ts)) None h) ∙ rw same at e)) at_once
          | inr other ↦ old k r (sym (get_or-set_other s.table n k _ None other) ∙ e)
        ]
      where
        at_once : P n (joined_into ps (row_in s.table n) ts)
        at_once = into_is n ts (row_in s.table n) (old n) new

    pub comes_to_are : (ts ns : List ℕ) (s : Sweep) → Each (λ n. n < length s.table) ns → Each (λ n. P n ts) ns → RowsAre P s.table → RowsAre P (comes_to ps ts ns s).table
    comes_to_are ts [] s h new old = old
    comes_to_are ts (n ∷ ns) s h new old =
        comes_to_are ts ns (comes ps ts n s) (rw (comes_long ts n s) h.1) new.1 (comes_are ts n s h.0 new.0 old)

    pub falls_are : (label : Option ℕ) (current : Option (List ℕ)) (s : Sweep) → ((n : ℕ) → label ≡ Some n → n < length s.table)
        → ((n : ℕ) (ts : List ℕ) → label ≡ Some n → current ≡ Some ts → P n ts) → RowsAre P s.table → RowsAre P (falls_into ps label current s).table
    falls_are None current s h new old = old
    falls_are (Some n) None s h new old = old
    falls_are (Some n) (Some ts) s h new old = comes_are ts n s (h n refl) (new n ts refl refl) old
