-- A tree of classes as masks: bit b of the mask of class a says whether a fits b.
use Rattle.std.specs.Prelude.{◌≡◌, ℕ, suc, ◌+◌, ◌-◌, ◌/◌, ◌%◌, ◌^◌, ◌<◌, Bool, true, false, List, [], ◌∷◌, length, slice_index}
use Rattle.std.specs.Int.Count.{count_leading_zeros}

-- the binary digit of m at the place b
abbrev pub bit : ℕ → ℕ → ℕ
bit m b = m / 2 ^ b % 2

abbrev pub digit : Bool → ℕ
digit true = 1
digit false = 0

-- the place of the highest set digit of a number of 64 digits; 0 for 0
abbrev pub highest : ℕ → ℕ
highest m = 63 - count_leading_zeros 64 m

-- the parents of the classes from k on: the highest class that a class fits beside itself
abbrev pub reads : ℕ → List ℕ → List ℕ
reads k [] = []
reads k (m ∷ ms) = highest (m - 2 ^ k) ∷ reads (suc k) ms

-- the parents that masks tell
abbrev pub parents_in : List ℕ → List ℕ
parents_in masks = reads 0 masks

-- a mask is the class's own bit and its parent's mask
abbrev pub Steps : List ℕ → Type 0
Steps ms = (k : ℕ) → 0 < k → k < length ms → slice_index ms k ≡ 2 ^ k + slice_index ms (slice_index (reads 0 ms) k)
