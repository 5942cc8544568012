-- Operations: each is read from its only text, which has no byte 10.
use Rattle.std.proofs.Common.{◌≡◌, ℕ, ◌<◌, ◌≤◌, true, eqb, List, [], ◌∷◌, map, length, Ok, codes, decimal, ap, ◌∙◌, arith}
use Rattle.std.proofs.lemmas.Bool.{eqb-true}
use Rattle.semantics.specs.declared.operation.Operand.{Operand}
use Rattle.semantics.specs.declared.operation.Destination.{Destination}
use Rattle.semantics.specs.Methods.{Each, Small, OperandInRange, Op, return, jump, jump_if, jump_list, invoke, OpInRange}
use Rattle.semantics.specs.Pieces.{Piece}
use Rattle.semantics.specs.Printing.{operand_text, destination_text, words, op_text}
use Rattle.semantics.specs.Values.{mapped, both, number_at, return_of, jump_of, jump_if_of, jump_list_of, invocation, invoke_of, lettered, operation_of, operation_at}
use Rattle.semantics.proofs.OnlyTexts.{Reads, bytes, from_err, from_cond, from_mapped, from_both}
use Rattle.semantics.proofs.PartTexts.{Parts, Word, Free, each_from, free_word, each_map, free_joined, reads_parted}
use Rattle.semantics.proofs.NumberTexts.{numbers, word_of_decimal}
use Rattle.semantics.proofs.OperandTexts.{small_numbers, operands, destinations, word_of_letter, word_of_small, word_of_operand, word_of_destination}
use Rattle.semantics.proofs.ListTexts.{from_nil_cons, from_cons_nil, same_head, same_tail, at_most}

names : Reads bytes (λ n. n ≤ 255) decimal (number_at 255)
names = numbers 255 (omega arith)

-- what is written behind the letter is read
return_forth : (vs : List Piece) (a : Operand) → map bytes vs ≡ operand_text a ∷ [] → OperandInRange a → return_of vs ≡ Ok (return a)
return_forth [] a e h = from_nil_cons e
return_forth (v ∷ []) a e h = ap (mapped return) (operands.forth v a (same_head e) h)
return_forth (v ∷ w ∷ vs) a e h = from_cons_nil (same_tail e)

jump_forth : (vs : List Piece) (n : ℕ) → map bytes vs ≡ decimal n ∷ [] → Small n → jump_of vs ≡ Ok (jump n)
jump_forth [] n e h = from_nil_cons e
jump_forth (v ∷ []) n e h = ap (mapped jump) (small_numbers.forth v n (same_head e) h)
jump_forth (v ∷ w ∷ vs) n e h = from_cons_nil (same_tail e)

jump_if_forth : (vs : List Piece) (a : Operand) (n : ℕ) → map bytes vs ≡ operand_text a ∷ decimal n ∷ [] → OpInRange (jump_if a n) → jump_if_of vs ≡ Ok (jump_if a n)
jump_if_forth [] a n e h = from_nil_cons e
jump_if_forth (v ∷ []) a n e h = from_nil_cons (same_tail e)
jump_if_forth (v ∷ w ∷ []) a n e h =
    let p = operands.forth v a (same_head e) h.0 in
    let q = small_numbers.forth w n (same_head (same_tail e)) h.1 in
    λ i. mapped (λ x. jump_if x.0 x.1) (both (p i) (q i))
jump_if_forth (v ∷ w ∷ x ∷ vs) a n e h = from_cons_nil (same_tail (same_tail e))

jump_list_forth : (vs : List Piece) (a : Operand) (ns : List ℕ) → map bytes vs ≡ operand_text a ∷ map decimal ns → OpInRange (jump_list a ns) → jump_list_of vs ≡ Ok (jump_list a ns)
jump_list_forth [] a ns e h = from_nil_cons e
jump_list_forth (v ∷ []) a [] e h = absurd (omega (arith, h.1))
jump_list_forth (v ∷ []) a (n ∷ ns) e h = from_nil_cons (same_tail e)
jump_list_forth (v ∷ w ∷ vs) a ns e h =
    let p = operands.forth v a (same_head e) h.0 in
    let q = (at_most small_numbers 8).forth (w ∷ vs) ns (same_tail e) (h.2, h.3) in
    λ i. mapped (λ x. jump_list x.0 x.1) (both (p i) (q i))

invoke_forth : (vs : List Piece) (d : Destination) (a : Operand) (m : ℕ) (bs : List Operand) → map bytes vs ≡ destination_text d ∷ operand_text a ∷ decimal m ∷ map operand_text bs → OpInRange (invoke d a m bs) → invoke_of vs ≡ Ok (invoke d a m bs)
invoke_forth [] d a m bs e h = from_nil_cons e
invoke_forth (v ∷ []) d a m bs e h = from_nil_cons (same_tail e)
invoke_forth (v ∷ w ∷ []) d a m bs e h = from_nil_cons (same_tail (same_tail e))
invoke_forth (v ∷ w ∷ x ∷ vs) d a m bs e h =
    let p = destinations.forth v d (same_head e) h.0 in
    let q = operands.forth w a (same_head (same_tail e)) h.1 in
    let r = names.forth x m (same_head (same_tail (same_tail e))) h.2 in
    let s = (at_most operands 7).forth vs bs (same_tail (same_tail (same_tail e))) (h.3, h.4) in
    λ i. mapped invocation (both (p i) (both (q i) (both (r i) (s i))))

some_words : (o : Op) → 0 < length (words o)
some_words (return a) = omega arith
some_words (jump n) = omega arith
some_words (jump_if a n) = omega arith
some_words (jump_list a ns) = omega arith
some_words (invoke d a m bs) = omega arith

operation_forth : (vs : List Piece) (o : Op) → map bytes vs ≡ words o → OpInRange o → operation_of vs ≡ Ok o
operation_forth [] o e h = absurd (omega (arith, some_words o, ap length e))
operation_forth (k ∷ vs) (return a) e h = ap (λ w. lettered w vs) (same_head e) ∙ return_forth vs a (same_tail e) h
operation_forth (k ∷ vs) (jump n) e h = ap (λ w. lettered w vs) (same_head e) ∙ jump_forth vs n (same_tail e) h
operation_forth (k ∷ vs) (jump_if a n) e h = ap (λ w. lettered w vs) (same_head e) ∙ jump_if_forth vs a n (same_tail e) h
operation_forth (k ∷ vs) (jump_list a ns) e h = ap (λ w. lettered w vs) (same_head e) ∙ jump_list_forth vs a ns (same_tail e) h
operation_forth (k ∷ vs) (invoke d a m bs) e h = ap (λ w. lettered w vs) (same_head e) ∙ invoke_forth vs d a m bs (same_tail e) h

-- what is read was written
abbrev Told : List ℕ → List Piece → Op → Type 0
Told letter vs o = (letter ∷ map bytes vs ≡ words o) × OpInRange o

return_back : (vs : List Piece) (o : Op) → return_of vs ≡ Ok o → Told (codes "R") vs o
return_back [] o e = from_err e
return_back (v ∷ []) o e = from_mapped (Told (codes "R") (v ∷ [])) return _ o e
    (λ a k. let b = operands.back v a k in (ap (λ w. codes "R" ∷ w ∷ []) b.0, b.1))
return_back (v ∷ w ∷ vs) o e = from_err e

jump_back : (vs : List Piece) (o : Op) → jump_of vs ≡ Ok o → Told (codes "J") vs o
jump_back [] o e = from_err e
jump_back (v ∷ []) o e = from_mapped (Told (codes "J") (v ∷ [])) jump _ o e
    (λ n k. let b = small_numbers.back v n k in (ap (λ w. codes "J" ∷ w ∷ []) b.0, b.1))
jump_back (v ∷ w ∷ vs) o e = from_err e

jump_if_back : (vs : List Piece) (o : Op) → jump_if_of vs ≡ Ok o → Told (codes "F") vs o
jump_if_back [] o e = from_err e
jump_if_back (v ∷ []) o e = from_err e
jump_if_back (v ∷ w ∷ []) o e = from_mapped (Told (codes "F") (v ∷ w ∷ [])) (λ x. jump_if x.0 x.1) _ o e
    (λ x k.
    let b = from_both _ _ x k in
    let p = operands.back v x.0 b.0 in
    let q = small_numbers.back w x.1 b.1 in
    ((λ i. codes "F" ∷ p.0 i ∷ q.0 i ∷ []), (p.1, q.1)))
jump_if_back (v ∷ w ∷ x ∷ vs) o e = from_err e

jump_list_back : (vs : List Piece) (o : Op) → jump_list_of vs ≡ Ok o → Told (codes "L") vs o
jump_list_back [] o e = from_err e
jump_list_back (v ∷ []) o e = from_err e
jump_list_back (v ∷ w ∷ vs) o e = from_mapped (Told (codes "L") (v ∷ w ∷ vs)) (λ x. jump_list x.0 x.1) _ o e
    (λ x k.
    let b = from_both _ _ x k in
    let p = operands.back v x.0 b.0 in
    let q = (at_most small_numbers 8).back (w ∷ vs) x.1 b.1 in
    ((λ i. codes "L" ∷ p.0 i ∷ q.0 i), (p.1, some_items x.1 q.0, q.1.0, q.1.1)))
  where
    some_items : (ns : List ℕ) → w.held ∷ map bytes vs ≡ map decimal ns → 0 < length ns
    some_items [] d = from_cons_nil d
    some_items (n ∷ ns) d = omega arith

invoke_back : (vs : List Piece) (o : Op) → invoke_of vs ≡ Ok o → Told (codes "V") vs o
invoke_back [] o e = from_err e
invoke_back (v ∷ []) o e = from_err e
invoke_back (v ∷ w ∷ []) o e = from_err e
invoke_back (v ∷ w ∷ x ∷ vs) o e = from_mapped (Told (codes "V") (v ∷ w ∷ x ∷ vs)) invocation _ o e
    (λ y k.
    let b = from_both _ _ y k in
    let c = from_both _ _ y.1 b.1 in
    let d = from_both _ _ y.1.1 c.1 in
    let p = destinations.back v y.0 b.0 in
    let q = operands.back w y.1.0 c.0 in
    let r = names.back x y.1.1.0 d.0 in
    let s = (at_most operands 7).back vs y.1.1.1 d.1 in
    ((λ i. codes "V" ∷ p.0 i ∷ q.0 i ∷ r.0 i ∷ s.0 i), (p.1, q.1, r.1, s.1.0, s.1.1)))

-- by its letter d
by_letter : (c d : ℕ) (vs : List Piece) (o : Op) → eqb c d ≡ true → Told (d ∷ []) vs o → Told (c ∷ []) vs o
by_letter c d vs o t k = (ap (λ x. (x ∷ []) ∷ map bytes vs) (eqb-true c d t) ∙ k.0, k.1)

letter_back : (w : List ℕ) (vs : List Piece) (o : Op) → lettered w vs ≡ Ok o → Told w vs o
letter_back [] vs o e = from_err e
letter_back (c ∷ []) vs o e = from_cond (eqb c 82) _ _ _ e
    (λ t k. by_letter c 82 vs o t (return_back vs o k))
    (λ _ e₁. from_cond (eqb c 74) _ _ _ e₁
    (λ t k. by_letter c 74 vs o t (jump_back vs o k))
    (λ _ e₂. from_cond (eqb c 70) _ _ _ e₂
    (λ t k. by_letter c 70 vs o t (jump_if_back vs o k))
    (λ _ e₃. from_cond (eqb c 76) _ _ _ e₃
    (λ t k. by_letter c 76 vs o t (jump_list_back vs o k))
    (λ _ e₄. from_cond (eqb c 86) _ _ _ e₄
    (λ t k. by_letter c 86 vs o t (invoke_back vs o k))
    (λ _ e₅. from_err e₅)))))
letter_back (c ∷ d ∷ ds) vs o e = from_err e

operation_back : (vs : List Piece) (o : Op) → operation_of vs ≡ Ok o → (map bytes vs ≡ words o) × OpInRange o
operation_back [] o e = from_err e
operation_back (k ∷ vs) o e = letter_back k.held vs o e

-- an operation is written in words
word_of : (c : ℕ) → 58 < c → Word (c ∷ [])
word_of c h = word_of_letter c [] h tt

op_words : (o : Op) → OpInRange o → Each Word (words o)
op_words (return a) h = (word_of 82 (omega arith), (word_of_operand a h, tt))
op_words (jump n) h = (word_of 74 (omega arith), (word_of_small n h, tt))
op_words (jump_if a n) h = (word_of 70 (omega arith), (word_of_operand a h.0, (word_of_small n h.1, tt)))
op_words (jump_list a ns) h = (word_of 76 (omega arith), (word_of_operand a h.0, each_map Word decimal word_of_small ns h.3))
op_words (invoke d a m bs) h =
    (word_of 86 (omega arith), (word_of_destination d h.0, (word_of_operand a h.1, (word_of_decimal m (omega (arith, h.2)), each_map Word operand_text word_of_operand bs h.4))))

free_op : (t : ℕ) → Parts t → (o : Op) → OpInRange o → Each (Free t) (words o)
free_op t apart o h = each_from (free_word t apart) (words o) (op_words o h)

pub operations : Reads bytes OpInRange op_text operation_at
operations = reads_parted 32 (record { forth = operation_forth; back = operation_back }) (λ o h. some_words o) (free_op 32 (λ c w. w.blank))

pub line_of_op : (o : Op) → OpInRange o → Free 10 (op_text o)
line_of_op o h = free_joined 32 10 (λ e. omega arith) (words o) (free_op 10 (λ c w. w.newline) o h)
