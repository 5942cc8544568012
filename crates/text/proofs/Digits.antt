-- What a turn over digits keeps.
use Rattle.std.proofs.Common.{◌≡◌, ℕ, ◌+◌, ◌-◌, ◌*◌, ◌<◌, ◌≤◌, List, [], ◌∷◌, length, get_or, drop, None, sym, ◌∙◌, arith}
use Rattle.std.proofs.lemmas.List.{at_drop_more}
use Rattle.std.proofs.lemmas.Bool.{lt-leb, cond-false}
use Rattle.semantics.specs.Numbers.{value_on}
use Rattle.text.specs.Digits.{up_to_max}

value_more : (n : ℕ) (xs : List ℕ) (i : ℕ) → i < length xs → value_on n (drop i xs) ≡ value_on (10 * n + (get_or xs i 0 - 48)) (drop (i + 1) xs)
value_more n xs i h = at_drop_more (value_on n) xs i 0 h

-- more digits write no smaller number
value_ge : (n : ℕ) (cs : List ℕ) → n ≤ value_on n cs
value_ge n [] = omega arith
value_ge n (c ∷ cs) = omega (arith, value_ge (10 * n + (c - 48)) cs)

-- the number is past its bound
pub value_over : (max n v : ℕ) (xs : List ℕ) (i : ℕ) → i < length xs → max < 10 * n + (get_or xs i 0 - 48) → value_on n (drop i xs) ≡ v → None ≡ up_to_max max v
value_over max n v xs i h over inv =
    sym (cond-false _ _ _ (lt-leb v max (omega (arith, value_ge (10 * n + (get_or xs i 0 - 48)) (drop (i + 1) xs), sym (value_more n xs i h) ∙ inv))))
