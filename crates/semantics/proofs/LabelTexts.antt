-- Argument classes and labels: each is read from its only text, which has no byte 10.
use Rattle.std.proofs.Common.{◌≡◌, ℕ, ◌<◌, ◌≤◌, List, [], ◌∷◌, map, length, Ok, decimal, arith}
use Rattle.std.proofs.lemmas.Fmt.{decimal_nonempty}
use Rattle.semantics.specs.Methods.{Each, Small, LabelDef, LabelInRange}
use Rattle.semantics.specs.Pieces.{Piece}
use Rattle.semantics.specs.Printing.{classes_text, label_text}
use Rattle.semantics.specs.Values.{mapped, both, arguments_at, row_at, label, label_parts, label_at}
use Rattle.semantics.proofs.OnlyTexts.{Reads, bytes, from_err, from_mapped, from_both}
use Rattle.semantics.proofs.PartTexts.{Parts, Free, free_word, each_map, free_joined, reads_parted, reads_parted_or_none}
use Rattle.semantics.proofs.OperandTexts.{small_numbers, word_of_small}
use Rattle.semantics.proofs.ListTexts.{from_nil_cons, from_cons_nil, same_head, same_tail, at_most, exactly}

-- no separator stands in the number of a class
free_classes : (t : ℕ) → Parts t → (ns : List ℕ) → Each Small ns → Each (Free t) (map decimal ns)
free_classes t apart ns h = each_map (Free t) decimal (λ n k. free_word t apart (decimal n) (word_of_small n k)) ns h

some_classes : (ns : List ℕ) → Each Small ns → Each (λ w. 0 < length w) (map decimal ns)
some_classes ns h = each_map (λ w. 0 < length w) decimal (λ n k. decimal_nonempty n (omega arith)) ns h

pub arguments : Reads bytes (λ ns. (length ns ≤ 7) × Each Small ns) classes_text arguments_at
arguments = reads_parted_or_none 44 (at_most small_numbers 7) (λ ns h. some_classes ns h.1) (λ ns h. free_classes 44 (λ c w. w.comma) ns h.1)

rows : (n : ℕ) → Reads bytes (λ ns. (length ns ≡ n) × Each Small ns) classes_text (row_at n)
rows n = reads_parted_or_none 44 (exactly small_numbers n) (λ ns h. some_classes ns h.1) (λ ns h. free_classes 44 (λ c w. w.comma) ns h.1)

pub line_of_classes : (ns : List ℕ) → Each Small ns → Free 10 (classes_text ns)
line_of_classes ns h = free_joined 44 10 (λ e. omega arith) (map decimal ns) (free_classes 10 (λ c w. w.newline) ns h)

-- a label is its point and its row
abbrev label_words : LabelDef → List (List ℕ)
label_words l = decimal l.point ∷ classes_text l.row ∷ []

label_forth : (n : ℕ) (vs : List Piece) (l : LabelDef) → map bytes vs ≡ label_words l → LabelInRange n l → label_parts n vs ≡ Ok l
label_forth n [] l e h = from_nil_cons e
label_forth n (v ∷ []) l e h = from_nil_cons (same_tail e)
label_forth n (v ∷ w ∷ []) l e h =
    let p = small_numbers.forth v l.point (same_head e) h.0 in
    let r = (rows n).forth w l.row (same_head (same_tail e)) (h.1, h.2) in
    λ i. mapped label (both (p i) (r i))
label_forth n (v ∷ w ∷ x ∷ vs) l e h = from_cons_nil (same_tail (same_tail e))

label_back : (n : ℕ) (vs : List Piece) (l : LabelDef) → label_parts n vs ≡ Ok l → (map bytes vs ≡ label_words l) × LabelInRange n l
label_back n [] l e = from_err e
label_back n (v ∷ []) l e = from_err e
label_back n (v ∷ w ∷ []) l e = from_mapped (λ m. (v.held ∷ w.held ∷ [] ≡ label_words m) × LabelInRange n m) label _ l e
    (λ x k.
    let b = from_both _ _ x k in
    let p = small_numbers.back v x.0 b.0 in
    let r = (rows n).back w x.1 b.1 in
    ((λ i. p.0 i ∷ r.0 i ∷ []), (p.1, r.1.0, r.1.1)))
label_back n (v ∷ w ∷ x ∷ vs) l e = from_err e

free_label : (t : ℕ) → (44 ≡ t → ⊥) → Parts t → (n : ℕ) (l : LabelDef) → LabelInRange n l → Each (Free t) (label_words l)
free_label t ne apart n l h = (free_word t apart _ (word_of_small l.point h.0), (free_joined 44 t ne _ (free_classes t apart l.row h.2), tt))

pub labels : (n : ℕ) → Reads bytes (LabelInRange n) label_text (label_at n)
labels n = reads_parted 58 (record { forth = label_forth n; back = label_back n }) (λ l h. omega arith) (free_label 58 (λ e. omega arith) (λ c w. w.colon) n)

pub line_of_label : (n : ℕ) (l : LabelDef) → LabelInRange n l → Free 10 (label_text l)
line_of_label n l h = free_joined 58 10 (λ e. omega arith) (label_words l) (free_label 10 (λ e. omega arith) (λ c w. w.newline) n l h)
