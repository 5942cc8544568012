-- The rules for a new row, by their parts.
use Rattle.std.proofs.Common.{◌≡◌, ℕ, ◌+◌, Bool, true, false, not, ◌&&◌, ◌||◌, eqb, List, [], ◌∷◌, ◌++◌, map, length, drop, Decides, sym, refl, ap, ◌∙◌, add-zero, arith, rules}
use Rattle.std.specs.List.{list_any}
use Rattle.std.proofs.lemmas.Slice.Eq.{compares_Decides}
use Rattle.std.proofs.lemmas.List.{length_push}
use Rattle.semantics.specs.declared.entry.Entry.{Entry}
use Rattle.semantics.specs.declared.method.Label.{Label}
use Rattle.semantics.specs.declared.refusal.Refusal.TheVariants.{ClassAbsent, NameTaken}
use Rattle.semantics.specs.Entries.{EntryDef, entry_of}
use Rattle.semantics.specs.Form.{Formed, must}
use Rattle.semantics.specs.Items.{items_of}
use Rattle.semantics.specs.Methods.{label_of}
use Rattle.semantics.specs.NewRows.{classes_present, entry_classes, row_classes, taken, same_list, agrees, entry_rules}
use Rattle.semantics.specs.Reading.{so}
use Rattle.semantics.specs.Tree.{present}
use Rattle.semantics.proofs.Searches.{so_done}
use Rattle.semantics.proofs.Walks.{walk_step, so_so}

-- some classes, then more
pub present_append : (ps : List ℕ) (k : ℕ) (xs ys : List ℕ) → so (classes_present ps k xs) (λ _. classes_present ps (k + length xs) ys) ≡ classes_present ps k (xs ++ ys)
present_append ps k [] ys = ap (λ n. classes_present ps n ys) (add-zero k)
present_append ps k (x ∷ xs) ys =
    let e : k + length (x ∷ xs) ≡ k + 1 + length xs = omega arith in
    ap (λ n. so (classes_present ps k (x ∷ xs)) (λ _. classes_present ps n ys)) e
    ∙ sym (so_so (must (present ps x) (ClassAbsent k)) (λ _. classes_present ps (k + 1) xs) (λ _. classes_present ps (k + 1 + length xs) ys))
    ∙ ap (λ r. so (must (present ps x) (ClassAbsent k)) (λ _. r)) (present_append ps (k + 1) xs ys)

-- the class and the arguments, then the result
pub signature_by : (ps : List ℕ) (e : EntryDef) (n : ℕ) (t v : Formed) → t ≡ classes_present ps 0 (e.class ∷ e.arguments) → n ≡ length e.arguments → v ≡ must (present ps e.result) (ClassAbsent (1 + n)) → so t (λ _. v) ≡ classes_present ps 0 (entry_classes e)
signature_by ps e n t v a l c =
    let k : 1 + n ≡ 0 + length (e.class ∷ e.arguments) = omega arith in
    let last : v ≡ classes_present ps (0 + length (e.class ∷ e.arguments)) (e.result ∷ []) = c ∙ ap (λ k. must (present ps e.result) (ClassAbsent k)) k ∙ sym (so_done _) in
    (λ i. so (a i) (λ _. last i)) ∙ present_append ps 0 (e.class ∷ e.arguments) (e.result ∷ [])

-- the signature, the labels' rows, the other rows
pub rules_by : (ps : List ℕ) (es : List EntryDef) (e : EntryDef) (ds : List ℕ) (t u v : Formed) → t ≡ classes_present ps 0 (entry_classes e) → u ≡ classes_present ps (2 + length e.arguments) ds → v ≡ so (must (not (taken e es)) NameTaken) (λ _. agrees ps e 0 es) → so t (λ _. so u (λ _. v)) ≡ entry_rules ps es e (entry_classes e ++ ds)
rules_by ps es e ds t u v a b c =
    let k : 2 + length e.arguments ≡ 0 + length (entry_classes e) = omega (arith, length_push e.arguments e.result) in
    so_so t (λ _. u) (λ _. v) ∙ (λ i. so (so (a i) (λ _. (b ∙ ap (λ j. classes_present ps j ds) k) i)) (λ _. c i))
    ∙ ap (λ r. so r (λ _. so (must (not (taken e es)) NameTaken) (λ _. agrees ps e 0 es))) (present_append ps 0 (entry_classes e) ds)

-- two tests of one fact
same_test : {P : Type 0} (a b : Bool) → Decides a P → Decides b P → a ≡ b
same_test true b p q = sym (q.1 (p.0 refl))
same_test false true p q = p.1 (q.0 refl)
same_test false false p q = refl

pub same_list_lem : (xs ys : List ℕ) (b : Bool) → Decides b (xs ≡ ys) → b ≡ same_list xs ys
same_list_lem xs ys b d = same_test b (same_list xs ys) d (compares_Decides same_list (search rules) xs ys)

-- a row of that name on that class
pub taken_any : (e : EntryDef) (xs : List Entry) → list_any (λ x. eqb x.name e.name && eqb x.class e.class) xs ≡ taken e (map entry_of xs)
taken_any e [] = refl
taken_any e (x ∷ xs) = ap (λ b. (eqb x.name e.name && eqb x.class e.class) || b) (taken_any e xs)

-- the row of a label, then those of the labels behind it
pub row_step : (ps : List ℕ) (k n i : ℕ) (xs : List Label) (x : Label) (t all : Formed) → drop i xs ≡ x ∷ drop (i + 1) xs → t ≡ classes_present ps k (items_of x.row) → n ≡ length (items_of x.row) → classes_present ps k (row_classes (map label_of (drop i xs))) ≡ all → so t (λ _. classes_present ps (k + n) (row_classes (map label_of (drop (i + 1) xs)))) ≡ all
row_step ps k n i xs x t all at e l inv =
    ap (λ j. so t (λ _. classes_present ps (k + j) (row_classes (map label_of (drop (i + 1) xs))))) l
    ∙ walk_step (λ ls. classes_present ps k (row_classes (map label_of ls))) (λ u. so u (λ _. classes_present ps (k + length (items_of x.row)) (row_classes (map label_of (drop (i + 1) xs))))) xs i x t _ all at e
    (sym (present_append ps k (items_of x.row) (row_classes (map label_of (drop (i + 1) xs))))) inv
