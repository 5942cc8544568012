-- Operands and destinations: each is read from its only text.
use Rattle.std.proofs.Common.{◌≡◌, ℕ, ◌+◌, ◌<◌, true, eqb, List, [], ◌∷◌, Ok, decimal, sym, refl, ap, ◌∙◌, arith}
use Rattle.std.specs.Fmt.{signed_decimal}
use Rattle.std.proofs.lemmas.Bool.{eqb-true}
use Rattle.semantics.specs.declared.operation.Operand.{Operand}
use Rattle.semantics.specs.declared.operation.Operand.TheVariants.{Local, Temporary, Constant}
use Rattle.semantics.specs.declared.operation.Destination.{Destination}
use Rattle.semantics.specs.declared.operation.Destination.TheVariants as destination
use Rattle.semantics.specs.Methods.{Small, OperandInRange, DestinationInRange}
use Rattle.semantics.specs.Pieces.{Piece, piece}
use Rattle.semantics.specs.Printing.{operand_text, destination_text}
use Rattle.semantics.specs.Values.{Said, mapped, number_at, operand_in, operand_at, destination_in, destination_at}
use Rattle.semantics.proofs.OnlyTexts.{Reads, bytes, from_err, from_cond, from_mapped}
use Rattle.semantics.proofs.PartTexts.{Word, word_byte}
use Rattle.semantics.proofs.NumberTexts.{word_of_decimal, numbers}
use Rattle.semantics.proofs.ConstantTexts.{constants, word_of_signed}

pub small_numbers : Reads bytes Small decimal (number_at 63)
small_numbers = numbers 63 (omega arith)

-- s is the text of y, which is in range
abbrev Told : {Y : Type 0} → (Y → List ℕ) → (Y → Type 0) → List ℕ → Y → Type 0
Told text P s y = (s ≡ text y) × P y

-- what is said behind the letter d
behind_letter : {X Y : Type 0} {P : X → Type 0} {text : X → List ℕ} {says : Piece → Said X} → Reads bytes P text says → (f : X → Y) (T : Y → List ℕ) (Q : Y → Type 0) (p c d : ℕ) (cs : List ℕ) (y : Y) → eqb c d ≡ true → ((x : X) → T (f x) ≡ d ∷ text x) → ((x : X) → P x → Q (f x)) → mapped f (says (piece p cs)) ≡ Ok y → Told T Q (c ∷ cs) y
behind_letter r f T Q p c d cs y is writes keeps e = from_mapped (Told T Q (c ∷ cs)) f _ y e
    (λ x k. let b = r.back (piece p cs) x k in ((λ i. eqb-true c d is i ∷ b.0 i) ∙ sym (writes x), keeps x b.1))

small_forth : {Y : Type 0} (f : ℕ → Y) (p n : ℕ) → Small n → mapped f (number_at 63 (piece p (decimal n))) ≡ Ok (f n)
small_forth f p n h = ap (mapped f) (small_numbers.forth (piece p (decimal n)) n refl h)

operand_forth : (p : ℕ) (a : Operand) → OperandInRange a → operand_in p (operand_text a) ≡ Ok a
operand_forth p (Local n) h = small_forth Local (p + 1) n h
operand_forth p (Temporary n) h = small_forth Temporary (p + 1) n h
operand_forth p (Constant z) h = ap (mapped Constant) (constants.forth (piece (p + 1) (signed_decimal z)) z refl h)

operand_back : (p : ℕ) (s : List ℕ) (a : Operand) → operand_in p s ≡ Ok a → Told operand_text OperandInRange s a
operand_back p [] a e = from_err e
operand_back p (c ∷ cs) a e = from_cond (eqb c 108) _ _ _ e
    (λ t d. behind_letter small_numbers Local operand_text OperandInRange (p + 1) c 108 cs a t (λ n. refl) (λ n h. h) d)
    (λ l d. from_cond (eqb c 116) _ _ _ d
    (λ t k. behind_letter small_numbers Temporary operand_text OperandInRange (p + 1) c 116 cs a t (λ n. refl) (λ n h. h) k)
    (λ f k. from_cond (eqb c 35) _ _ _ k
    (λ t q. behind_letter constants Constant operand_text OperandInRange (p + 1) c 35 cs a t (λ z. refl) (λ z h. h) q)
    (λ g q. from_err q)))

pub operands : Reads bytes OperandInRange operand_text operand_at
operands = record {
  forth = λ v a e h. ap (operand_in v.place) e ∙ operand_forth v.place a h;
  back = λ v a e. operand_back v.place v.held a e;
}

destination_forth : (p : ℕ) (d : Destination) → DestinationInRange d → destination_in p (destination_text d) ≡ Ok d
destination_forth p (destination.Local n) h = small_forth destination.Local (p + 1) n h
destination_forth p (destination.Temporary n) h = small_forth destination.Temporary (p + 1) n h

destination_back : (p : ℕ) (s : List ℕ) (d : Destination) → destination_in p s ≡ Ok d → Told destination_text DestinationInRange s d
destination_back p [] d e = from_err e
destination_back p (c ∷ cs) d e = from_cond (eqb c 108) _ _ _ e
    (λ t k. behind_letter small_numbers destination.Local destination_text DestinationInRange (p + 1) c 108 cs d t (λ n. refl) (λ n h. h) k)
    (λ l k. from_cond (eqb c 116) _ _ _ k
    (λ t q. behind_letter small_numbers destination.Temporary destination_text DestinationInRange (p + 1) c 116 cs d t (λ n. refl) (λ n h. h) q)
    (λ f q. from_err q))

pub destinations : Reads bytes DestinationInRange destination_text destination_at
destinations = record {
  forth = λ v d e h. ap (destination_in v.place) e ∙ destination_forth v.place d h;
  back = λ v d e. destination_back v.place v.held d e;
}

-- their texts are words
pub word_of_letter : (c : ℕ) (s : List ℕ) → 58 < c → Word s → Word (c ∷ s)
word_of_letter c s h w = (word_byte c (omega arith) (λ e. omega arith) (λ e. omega arith), w)

pub word_of_small : (n : ℕ) → Small n → Word (decimal n)
word_of_small n h = word_of_decimal n (omega arith)

pub word_of_operand : (a : Operand) → OperandInRange a → Word (operand_text a)
word_of_operand (Local n) h = word_of_letter 108 _ (omega arith) (word_of_small n h)
word_of_operand (Temporary n) h = word_of_letter 116 _ (omega arith) (word_of_small n h)
word_of_operand (Constant z) h = (word_byte 35 (omega arith) (λ e. omega arith) (λ e. omega arith), word_of_signed z h)

pub word_of_destination : (d : Destination) → DestinationInRange d → Word (destination_text d)
word_of_destination (destination.Local n) h = word_of_letter 108 _ (omega arith) (word_of_small n h)
word_of_destination (destination.Temporary n) h = word_of_letter 116 _ (omega arith) (word_of_small n h)
