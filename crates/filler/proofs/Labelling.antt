-- The number of a point's label, and labels that are given the rows of a table.
use Rattle.std.proofs.Common.{◌≡◌, ℕ, zero, suc, ◌+◌, ◌<◌, List, [], ◌∷◌, ◌++◌, map, length, get_or, take, drop, set, replicate, None, Option, sym, refl, ap, ◌∙◌, ⊎_elim, append_assoc, arith}
use Rattle.std.specs.Option.{option_or}
use Rattle.std.proofs.lemmas.List.{drop_more, drop_all, take_more_set, map_push, get_or_past}
use Rattle.std.proofs.lemmas.Bool.{cases_lt}
use Rattle.semantics.specs.declared.method.Label.{Label}
use Rattle.semantics.specs.Fill.{Table, row_in, row_or, with_rows}
use Rattle.semantics.specs.Methods.{LabelDef, label_of}

get_or_replicate_none : {X : Type 0} (n p : ℕ) → ◌≡◌ {A = Option X} (get_or (replicate n None) p None) None
get_or_replicate_none zero p = refl
get_or_replicate_none (suc n) zero = refl
get_or_replicate_none (suc n) (suc p) = get_or_replicate_none n p

-- no point has a number yet
pub numbers_start : (n p : ℕ) (xs : List (Option ℕ)) (o : Option ℕ) → xs ≡ replicate n None → option_or (get_or xs p None) o ≡ o
numbers_start n p xs o e = ap (λ x. option_or (get_or x p None) o) e ∙ ap (λ x. option_or x o) (get_or_replicate_none n p)

-- the label i with the row i of a table
abbrev with_row : Table → ℕ → LabelDef → LabelDef
with_row t i l = record { point = l.point; row = row_or (row_in t i) }

rows_step : (l : LabelDef) (ls : List LabelDef) (t : Table) (i : ℕ) → with_rows (l ∷ ls) (drop i t) ≡ with_row t i l ∷ with_rows ls (drop (i + 1) t)
rows_step l ls t i =
    ⊎_elim
    (λ h. ap (with_rows (l ∷ ls)) (drop_more t i None h))
    (λ h.
    ap (with_rows (l ∷ ls)) (drop_all i t h)
    ∙ (λ j. record { point = l.point; row = row_or (sym (get_or_past t i None h) j) } ∷ with_rows ls (sym (drop_all (i + 1) t (omega arith)) j)))
    (cases_lt i (length t))

pub rows_turn : (ls fs fs' : List Label) (l x : Label) (t : Table) (i : ℕ) (all : List LabelDef) → i < length fs → drop i ls ≡ l ∷ drop (i + 1) ls → fs' ≡ set fs i x → label_of x ≡ with_row t i (label_of l) → map label_of (take i fs) ++ with_rows (map label_of (drop i ls)) (drop i t) ≡ all → map label_of (take (i + 1) fs') ++ with_rows (map label_of (drop (i + 1) ls)) (drop (i + 1) t) ≡ all
rows_turn ls fs fs' l x t i all h d e f inv =
    let done = map label_of (take i fs) in
    let rest = with_rows (map label_of (drop (i + 1) ls)) (drop (i + 1) t) in
    let a : map label_of (take (i + 1) fs') ≡ done ++ label_of x ∷ [] = ap (λ y. map label_of (take (i + 1) y)) e ∙ ap (map label_of) (take_more_set fs i x h) ∙ map_push label_of (take i fs) x in
    ap (λ y. y ++ rest) a ∙ append_assoc done (label_of x ∷ []) rest ∙ ap (λ y. done ++ y ∷ rest) f
    ∙ ap (λ y. done ++ y) (sym (rows_step (label_of l) (map label_of (drop (i + 1) ls)) t i)) ∙ ap (λ y. done ++ with_rows (map label_of y) (drop i t)) (sym d) ∙ inv
