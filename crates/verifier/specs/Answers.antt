-- What the definitions answer, as the code answers it.
use Rattle.std.specs.Prelude.{ℕ, List, Some, None, Ok, Err, Option, Result}
use Rattle.semantics.specs.declared.array_vec.ArrayVec.{ArrayVec}
use Rattle.semantics.specs.Entries.{Found}
use Rattle.semantics.specs.Items.{items_of}

-- the number of a row that was found
abbrev pub number_of : Option Found → Option ℕ
number_of None = None
number_of (Some f) = Some f.number

-- what an answer means, where f is what its value means
abbrev pub answered : {X Y E : Type 0} → (X → Y) → Result X E → Result Y E
answered f (Ok x) = Ok (f x)
answered f (Err e) = Err e

-- the classes of a row, where there is one
abbrev pub row_of : {N : ℕ} → Option (ArrayVec ℕ N) → Option (List ℕ)
row_of None = None
row_of (Some v) = Some (items_of v)
