-- Items of a list by number, from 0, and rules over them.
use Rattle.std.specs.Prelude.{ℕ, zero, suc, ◌<◌, List, ◌∷◌}

-- the item of that number is x
pub data At {X : Type 0} : List X → ℕ → X → Type 0 where
  here : {x : X} {xs : List X} → At (x ∷ xs) zero x
  there : {x y : X} {xs : List X} {k : ℕ} → At xs k x → At (y ∷ xs) (suc k) x

-- every item keeps the rule of its number
abbrev pub Throughout : {X : Type 0} → (ℕ → X → Type 0) → List X → Type 0
Throughout {X} Rule xs = (k : ℕ) (x : X) → At xs k x → Rule k x

-- item k is the first to break the rule
pub record First {X : Type 0} (Rule : ℕ → X → Type 0) (xs : List X) (k : ℕ) : Type 0 where
  pub item : X
  pub at : At xs k item
  pub broken : Rule k item → ⊥
  pub before : (j : ℕ) (x : X) → At xs j x → j < k → Rule j x
