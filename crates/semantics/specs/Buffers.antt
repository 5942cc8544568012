-- What a lent buffer holds after bytes were written into it.
use Rattle.std.specs.Prelude.{ℕ, ◌+◌, cond, List, [], ◌∷◌, ◌++◌, length, drop, Ok, Err, Result, nat_le, slice_set}
use Rattle.semantics.specs.declared.refusal.Refusal.{Refusal}
use Rattle.semantics.specs.declared.refusal.Refusal.TheVariants.{BufferTooShort}

-- bytes put at the places from at on, as far as the buffer reaches
abbrev pub put_all : ℕ → List ℕ → List ℕ → List ℕ
put_all at [] buf = buf
put_all at (x ∷ xs) buf = put_all (at + 1) xs (slice_set buf at x)

-- the answer of a call that writes xs into a buffer with that room: the length, or 7 with the bytes needed
abbrev pub fitted : List ℕ → ℕ → Result ℕ Refusal
fitted xs room = cond (nat_le (length xs) room) (Ok (length xs)) (Err (BufferTooShort (length xs)))

abbrev pub written : List ℕ → List ℕ → Result ℕ Refusal
written xs buf = cond (nat_le (length xs) (length buf)) (Ok (length xs)) (Err (BufferTooShort (length xs)))

-- the buffer after it: bytes past the length stay, and all of them where it is too short
abbrev pub filled : List ℕ → List ℕ → List ℕ
filled xs buf = cond (nat_le (length xs) (length buf)) (xs ++ drop (length xs) buf) buf
