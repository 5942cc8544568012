-- Numbers: each is read from its only numeral.
use Rattle.std.proofs.Common.{◌≡◌, ℕ, ◌^◌, ◌<◌, ◌≤◌, true, eqb, leb, List, [], ◌∷◌, length, get_or, Ok, decimal, sym, refl, ap, ◌∙◌, subst, ⊎_elim, arith, rules}
use Rattle.std.specs.Char.{is_ascii_digit}
use Rattle.std.specs.Str.{all_ascii_digits}
use Rattle.std.proofs.lemmas.List.{nil_from_length}
use Rattle.std.proofs.lemmas.Str.Parse.{IsNumeralModel, numerals_by_fold, tells_all_ascii_digits}
use Rattle.std.proofs.lemmas.Fmt.{decimal-digits_value, digits_value-decimal, digits_decimal, decimal_nonempty, first_decimal, decimal_digit}
use Rattle.std.proofs.lemmas.Bool.{and_parts, leb-true, le-leb, eq-eqb, eqb-true, eqb-false, cases_Bool, cases_eq, cond-true, cond-false, false≢true}
use Rattle.semantics.specs.Numbers.{value_on, value_of, is_numeral}
use Rattle.semantics.specs.Pieces.{Piece}
use Rattle.semantics.specs.Values.{number_at}
use Rattle.semantics.proofs.OnlyTexts.{Reads, bytes, from_err, same_ok, from_cond}
use Rattle.semantics.proofs.PartTexts.{Word, word_byte}

own : IsNumeralModel (λ ds. all_ascii_digits ds ≡ true) value_of
own = numerals_by_fold _ tells_all_ascii_digits value_on (search rules)

pub is_digit : (c : ℕ) → is_ascii_digit c ≡ true → (48 ≤ c) × (c ≤ 57)
is_digit c h = search (rules, and_parts, leb-true)

-- what `is_numeral` tells, in parts
pub numeral_parts : (ds : List ℕ) → is_numeral ds ≡ true → (all_ascii_digits ds ≡ true) × (0 < length ds) × (get_or ds 0 0 ≡ 48 → length ds ≡ 1)
numeral_parts [] h = absurd (false≢true h)
numeral_parts (c ∷ cs) h = from_cond (eqb c 48) _ _ true h
    (λ e n.
    let z : c ≡ 48 = eqb-true c 48 e in
    let k : length cs ≡ 0 = eqb-true _ 0 n in
    let l : cs ≡ [] = nil_from_length cs k in
    (subst (λ l. all_ascii_digits (c ∷ l) ≡ true) (sym l) (subst (λ x. all_ascii_digits (x ∷ []) ≡ true) (sym z) refl), omega arith, λ _. omega arith))
    (λ e a. (a, omega arith, λ z. absurd (eqb-false c 48 e z)))

numeral_from : (ds : List ℕ) → all_ascii_digits ds ≡ true → 0 < length ds → (get_or ds 0 0 ≡ 48 → length ds ≡ 1) → is_numeral ds ≡ true
numeral_from [] a h z = absurd (omega arith)
numeral_from (c ∷ cs) a h z = ⊎_elim
    (λ e. cond-true _ _ _ e ∙ eq-eqb _ _ (omega (arith, z (eqb-true c 48 e))))
    (λ e. cond-false _ _ _ e ∙ a)
    (cases_Bool (eqb c 48))

-- a number is written as its only numeral
pub numeral_decimal : (n : ℕ) → n < 2 ^ 64 → is_numeral (decimal n) ≡ true
numeral_decimal n h = numeral_from (decimal n) (digits_decimal own n h) (decimal_nonempty n h)
    (λ z. ⊎_elim
    (λ e. ap length (ap decimal e ∙ decimal_digit 0 (omega arith)))
    (λ e. absurd (omega (arith, first_decimal n (omega arith) h)))
    (cases_eq n 0))

pub value_of_decimal : (n : ℕ) → n < 2 ^ 64 → value_of (decimal n) ≡ n
value_of_decimal n h = digits_value-decimal own n h

pub decimal_of_value : (ds : List ℕ) → is_numeral ds ≡ true → value_of ds < 2 ^ 64 → ds ≡ decimal (value_of ds)
decimal_of_value ds h v = let p = numeral_parts ds h in sym (decimal-digits_value own ds p.0 p.1 p.2 v)

-- digits are bytes of a word
word_of_digits : (ds : List ℕ) → all_ascii_digits ds ≡ true → Word ds
word_of_digits [] h = tt
word_of_digits (c ∷ cs) h =
    let p = and_parts (is_ascii_digit c) (all_ascii_digits cs) h in
    let d = is_digit c p.0 in
    (word_byte c (omega arith) (λ e. omega arith) (λ e. omega arith), word_of_digits cs p.1)

pub word_of_decimal : (n : ℕ) → n < 2 ^ 64 → Word (decimal n)
word_of_decimal n h = word_of_digits (decimal n) (digits_decimal own n h)

pub numbers : (max : ℕ) → max < 2 ^ 64 → Reads bytes (λ n. n ≤ max) decimal (number_at max)
numbers max small = record { forth = forth; back = back }
  where
    forth : (v : Piece) (n : ℕ) → v.held ≡ decimal n → n ≤ max → number_at max v ≡ Ok n
    forth v n e h =
        let s : value_of v.held ≡ n = ap value_of e ∙ value_of_decimal n (omega arith) in
        cond-true _ _ _ (ap is_numeral e ∙ numeral_decimal n (omega arith)) ∙ cond-true _ _ _ (le-leb (value_of v.held) max (omega arith)) ∙ ap Ok s

    back : (v : Piece) (n : ℕ) → number_at max v ≡ Ok n → (v.held ≡ decimal n) × (n ≤ max)
    back v n e = from_cond (is_numeral v.held) _ _ _ e
        (λ t d. from_cond (leb (value_of v.held) max) _ _ _ d
        (λ l q.
        let s : value_of v.held ≡ n = same_ok q in
        let b = leb-true (value_of v.held) max l in
        (decimal_of_value v.held t (omega arith) ∙ ap decimal s, omega arith))
        (λ l q. from_err q))
        (λ f d. from_err d)
