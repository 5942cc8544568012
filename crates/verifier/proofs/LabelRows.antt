-- The rows of labels, by number and by point.
use Rattle.std.proofs.Common.{◌≡◌, ℕ, zero, suc, ◌+◌, ◌<◌, ◌≤◌, Bool, true, false, cond, eqb, List, [], ◌∷◌, map, length, get_or, drop, Some, None, Option, Bor, sym, refl, ap, ◌∙◌, add_assoc, arith}
use Rattle.std.specs.List.{find}
use Rattle.std.specs.Option.{MatchOption, option_map}
use Rattle.std.specs.Slice.{IsItemAt}
use Rattle.std.proofs.lemmas.List.{drop_more}
use Rattle.semantics.specs.declared.array_vec.ArrayVec.{ArrayVec}
use Rattle.semantics.specs.declared.method.Label.{Label}
use Rattle.semantics.specs.declared.misfit.Misfit.TheVariants.{Row}
use Rattle.semantics.specs.Check.{label_at_point}
use Rattle.semantics.specs.Items.{items_of}
use Rattle.semantics.specs.Methods.{LabelDef, label_of}
use Rattle.semantics.specs.Rows.{row_fits}
use Rattle.semantics.specs.Tests.{Tested, then, demand, label_row, classes_fit, cells_fit, labels_fit}
use Rattle.verifier.specs.Answers.{row_of}
use Rattle.verifier.specs.Points.{labelled_row}
use Rattle.semantics.proofs.Walks.{walk_step}

abbrev Row8 : Type 0
Row8 = ArrayVec ℕ 8

row_within : (xs : List Label) (n : ℕ) (d : Label) → n < length xs → items_of (get_or xs n d).row ≡ label_row (map label_of xs) n
row_within [] n d h = absurd (omega arith)
row_within (x ∷ xs) zero d h = refl
row_within (x ∷ xs) (suc n) d h = row_within xs n d (omega arith)

row_past : (xs : List Label) (n : ℕ) → length xs ≤ n → [] ≡ label_row (map label_of xs) n
row_past [] n h = refl
row_past (x ∷ xs) zero h = absurd (omega arith)
row_past (x ∷ xs) (suc n) h = row_past xs n (omega arith)

-- the row of the item that `get` lends
pub row_got : (xs : List Label) (n : ℕ) (o : Option (Bor Label)) (r : Row8) (P : Type 0) (Q : Bor Label → Type 0) → (P → items_of r ≡ []) → ((y : Bor Label) → Q y → r ≡ y.now.row) → IsItemAt xs n o → MatchOption o P Q → items_of r ≡ label_row (map label_of xs) n
row_got xs n None r P Q f g at p = f p ∙ row_past xs n at.3
row_got xs n (Some y) r P Q f g at q = ap items_of (g y q) ∙ ap (λ z. items_of z.row) at.1 ∙ row_within xs n y.now at.3.0

-- the row xs against the row ws of a named label
pub label_step : {X : Type 0} (ps : List ℕ) (kind : X → ℕ) (ls : List LabelDef) (xs : List X) (k i : ℕ) (ns ws : List ℕ) (b : Bool) (t all : Tested (Unit {0})) → i < length ns → ws ≡ label_row ls (get_or ns i 0) → b ≡ row_fits ps kind (λ c. c) xs ws → t ≡ demand b (Row (k + i)) → cells_fit ps kind ls xs (k + i) (drop i ns) ≡ all → then t (λ _. cells_fit ps kind ls xs (k + (i + 1)) (drop (i + 1) ns)) ≡ all
label_step ps kind ls xs k i ns ws b t all h w f e inv =
    ap (λ n. then t (λ _. cells_fit ps kind ls xs n (drop (i + 1) ns))) (sym (add_assoc k i 1))
    ∙ walk_step (cells_fit ps kind ls xs (k + i)) (λ u. then u (λ _. cells_fit ps kind ls xs (k + i + 1) (drop (i + 1) ns))) ns i (get_or ns i 0) t _ all
    (drop_more ns i 0 h) (e ∙ ap (λ c. demand c (Row (k + i))) (f ∙ ap (row_fits ps kind (λ c. c) xs) w)) refl inv

-- cells that are classes
pub classes_are_cells : (ps : List ℕ) (ls : List LabelDef) (ts : List ℕ) (k : ℕ) (ns : List ℕ) → cells_fit ps (λ c. c) ls ts k ns ≡ labels_fit ps ls ts k ns
classes_are_cells ps ls ts k [] = refl
classes_are_cells ps ls ts k (n ∷ ns) = ap (λ r. then (demand (classes_fit ps ts (label_row ls n)) (Row k)) (λ _. r)) (classes_are_cells ps ls ts (k + 1) ns)

labelled_either : (b : Bool) (x : Label) (r : Option Label) (l : Option LabelDef) → option_map (λ (y : Label). items_of y.row) r ≡ labelled_row l → option_map (λ (y : Label). items_of y.row) (cond b (Some x) r) ≡ labelled_row (cond b (Some (label_of x)) l)
labelled_either true x r l e = refl
labelled_either false x r l e = e

-- the row of the first label at a point
pub labelled_at : (p : ℕ) (xs : List Label) → option_map (λ (y : Label). items_of y.row) (find (λ x. eqb x.point p) xs) ≡ labelled_row (label_at_point (map label_of xs) p)
labelled_at p [] = refl
labelled_at p (x ∷ xs) = labelled_either (eqb x.point p) x (find (λ y. eqb y.point p) xs) (label_at_point (map label_of xs) p) (labelled_at p xs)

rows_same : (o : Option (Bor Label)) → row_of (option_map (λ y. y.now.row) o) ≡ option_map (λ (l : Label). items_of l.row) (option_map (λ y. y.now) o)
rows_same None = refl
rows_same (Some y) = refl

pub labelled_by : (p : ℕ) (xs : List Label) (o : Option (Bor Label)) (r : Option Row8) → option_map (λ y. y.now) o ≡ find (λ x. eqb x.point p) xs → r ≡ option_map (λ y. y.now.row) o → row_of r ≡ labelled_row (label_at_point (map label_of xs) p)
labelled_by p xs o r e f = ap row_of f ∙ rows_same o ∙ ap (option_map (λ (l : Label). items_of l.row)) e ∙ labelled_at p xs
