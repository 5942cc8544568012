-- Decimal numbers without needless zeros, and the numbers that they write.
use Rattle.std.specs.Prelude.{ℕ, ◌+◌, ◌-◌, ◌*◌, Bool, false, cond, not, ◌&&◌, List, [], ◌∷◌, length, ◌==◌, slice_index}
use Rattle.std.specs.Str.{all_ascii_digits}

-- the number that digits write behind the number n
abbrev pub value_on : ℕ → List ℕ → ℕ
value_on n [] = n
value_on n (c ∷ cs) = value_on (10 * n + (c - 48)) cs

abbrev pub value_of : List ℕ → ℕ
value_of ds = value_on 0 ds

-- digits, one at least, and no 0 in front of others
abbrev pub is_numeral : List ℕ → Bool
is_numeral [] = false
is_numeral (c ∷ cs) = cond (c == 48) (length cs == 0) (all_ascii_digits (c ∷ cs))

-- a numeral that does not write 0
abbrev pub is_positive : List ℕ → Bool
is_positive ds = is_numeral ds && not (slice_index ds 0 == 48)
