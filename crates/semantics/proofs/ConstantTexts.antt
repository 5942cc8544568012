-- Constants: each is read from its only text.
use Rattle.std.proofs.Common.{◌≡◌, ℕ, zero, suc, ◌^◌, ◌<◌, ◌≤◌, true, not, eqb, leb, List, [], ◌∷◌, get_or, ℤ, pos, negsuc, neg_ℤ, Ok, decimal, refl, ap, ◌∙◌, subst, arith}
use lib.Signed.{mag}
use Rattle.std.specs.Char.{is_ascii_digit}
use Rattle.std.specs.Fmt.{signed_decimal}
use Rattle.std.specs.Str.{all_ascii_digits}
use Rattle.std.proofs.lemmas.Fmt.{decimal_digit, first_decimal}
use Rattle.std.proofs.lemmas.Bool.{and_parts, and_from, not-true, not_from_false, leb-true, le-leb, ne_eqb, eqb-true, eqb-false, cond-true, cond-false, false≢true}
use Rattle.semantics.specs.Numbers.{value_of, is_numeral, is_positive}
use Rattle.semantics.specs.Pieces.{piece}
use Rattle.semantics.specs.Values.{mapped, number_at, below, constant_in}
use Rattle.semantics.proofs.OnlyTexts.{Reads, bytes, from_err, same_ok, from_cond, from_mapped}
use Rattle.semantics.proofs.PartTexts.{Word, word_byte}
use Rattle.semantics.proofs.NumberTexts.{is_digit, numeral_parts, numeral_decimal, value_of_decimal, decimal_of_value, word_of_decimal, numbers}

abbrev Told : List ℕ → ℤ → Type 0
Told s z = (s ≡ signed_decimal z) × (mag z < 2 ^ 31)

-- a numeral does not begin with a minus
constant_of_numeral : (p : ℕ) (ds : List ℕ) → is_numeral ds ≡ true → constant_in p ds ≡ mapped pos (number_at 2147483647 (piece p ds))
constant_of_numeral p [] h = absurd (false≢true h)
constant_of_numeral p (c ∷ cs) h =
    let d = is_digit c (and_parts (is_ascii_digit c) (all_ascii_digits cs) (numeral_parts (c ∷ cs) h).0).0 in
    cond-false _ _ _ (ne_eqb c 45 (λ e. omega arith))

positive_decimal : (n : ℕ) → suc n < 2 ^ 64 → is_positive (decimal (suc n)) ≡ true
positive_decimal n h = and_from _ _ (numeral_decimal (suc n) h) (not_from_false _ (ne_eqb _ 48 (λ e. omega (arith, first_decimal (suc n) (omega arith) h))))

constant_signed : (p : ℕ) (z : ℤ) → mag z < 2 ^ 31 → constant_in p (signed_decimal z) ≡ Ok z
constant_signed p (pos n) h =
    constant_of_numeral p (decimal n) (numeral_decimal n (omega arith)) ∙ ap (mapped pos) ((numbers 2147483647 (omega arith)).forth (piece p (decimal n)) n refl (omega arith))
constant_signed p (negsuc n) h =
    let v : value_of (decimal (suc n)) ≡ suc n = value_of_decimal (suc n) (omega arith) in
    cond-true _ _ _ (positive_decimal n (omega arith))
    ∙ cond-true _ _ _ (le-leb (value_of (decimal (suc n))) 2147483648 (omega arith)) ∙ ap (λ k. Ok (neg_ℤ (pos k))) v

-- a positive numeral does not write 0
value_of_positive : (ds : List ℕ) → is_positive ds ≡ true → value_of ds ≡ 0 → ⊥
value_of_positive ds h z =
    let p = and_parts (is_numeral ds) (not (eqb (get_or ds 0 0) 48)) h in
    let d : ds ≡ 48 ∷ [] = decimal_of_value ds p.0 (omega arith) ∙ ap decimal z ∙ decimal_digit 0 (omega arith) in
    eqb-false _ 48 (not-true _ p.1) (ap (λ l. get_or l 0 0) d)

signed_negative : (n : ℕ) (z : ℤ) → (n ≡ 0 → ⊥) → n ≤ 2147483648 → neg_ℤ (pos n) ≡ z → Told (45 ∷ decimal n) z
signed_negative zero z ne h e = absurd (ne refl)
signed_negative (suc n) z ne h e = (ap signed_decimal e, subst (λ y. mag y < 2 ^ 31) e (omega arith))

signed_below : (p : ℕ) (ds : List ℕ) (z : ℤ) → below p ds ≡ Ok z → Told (45 ∷ ds) z
signed_below p ds z e = from_cond (is_positive ds) _ _ _ e
    (λ t d. from_cond (leb (value_of ds) 2147483648) _ _ _ d
    (λ l q.
    let b = leb-true (value_of ds) 2147483648 l in
    let n : is_numeral ds ≡ true = (and_parts (is_numeral ds) (not (eqb (get_or ds 0 0) 48)) t).0 in
    let k = signed_negative (value_of ds) z (value_of_positive ds t) b (same_ok q) in
    (ap (λ s. 45 ∷ s) (decimal_of_value ds n (omega arith)) ∙ k.0, k.1))
    (λ l q. from_err q))
    (λ f d. from_err d)

signed_constant : (p : ℕ) (s : List ℕ) (z : ℤ) → constant_in p s ≡ Ok z → Told s z
signed_constant p [] z e = from_err e
signed_constant p (c ∷ cs) z e = from_cond (eqb c 45) _ _ _ e
    (λ t b. let k = signed_below p cs z b in (ap (λ x. x ∷ cs) (eqb-true c 45 t) ∙ k.0, k.1))
    (λ f m. from_mapped (Told (c ∷ cs)) pos _ z m (λ n h. let k = (numbers 2147483647 (omega arith)).back (piece p (c ∷ cs)) n h in (k.0, omega (arith, k.1))))

pub constants : Reads bytes (λ z. mag z < 2 ^ 31) signed_decimal (λ v. constant_in v.place v.held)
constants = record {
  forth = λ v z e h. ap (constant_in v.place) e ∙ constant_signed v.place z h;
  back = λ v z e. signed_constant v.place v.held z e;
}

pub word_of_signed : (z : ℤ) → mag z < 2 ^ 31 → Word (signed_decimal z)
word_of_signed (pos n) h = word_of_decimal n (omega arith)
word_of_signed (negsuc n) h = (word_byte 45 (omega arith) (λ e. omega arith) (λ e. omega arith), word_of_decimal (suc n) (omega arith))
