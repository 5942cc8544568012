-- How much of the input is still to come.
use Rattle.std.specs.Prelude.{ℕ, ◌<◌, ◌≤◌, length, IfOk, Option, Result, MatchOption}
use Rattle.console.specs.declared.lines.Lines.{Lines}

abbrev pub to_come : Lines → ℕ
to_come l = length l.left.now

-- where something came, fewer bytes are left
abbrev pub Shorter : {X : Type 0} → Option X → ℕ → ℕ → Type 0
Shorter r before after = MatchOption r (after ≤ before) (λ _. after < before)

-- the same of a reading that may fail
abbrev pub Fewer : {X E : Type 0} → Result (Option X) E → ℕ → ℕ → Type 0
Fewer r before after = IfOk r (λ o. Shorter o before after)
