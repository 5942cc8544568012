-- The items of a bounded list: those before its count.
use Rattle.std.specs.Prelude.{ℕ, cond, List, [], ◌∷◌, ◌++◌, length, take, Ok, Err, Result, nat_lt}
use Rattle.semantics.specs.declared.array_vec.ArrayVec.{ArrayVec}

abbrev pub items_of : {T : Type 0} {N : ℕ} → ArrayVec T N → List T
items_of v = take v.count v.items

-- one item more, where fewer than n are there
abbrev pub pushed : {T : Type 0} → ℕ → List T → T → List T
pushed n xs x = cond (nat_lt (length xs) n) (xs ++ x ∷ []) xs

-- whether there is room for it; if not, it is handed back
abbrev pub room : {T : Type 0} → ℕ → List T → T → Result (Unit {0}) T
room n xs x = cond (nat_lt (length xs) n) (Ok tt) (Err x)
