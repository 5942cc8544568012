-- Items of a list by number: below the length, in a front of the list, and the last one.
use Rattle.std.proofs.Common.{◌≡◌, ℕ, zero, suc, ◌<◌, ◌⊎◌, List, [], ◌∷◌, ◌++◌, length, refl, ap, inl, inr, ⊎_elim, arith}
use Rattle.semantics.specs.Lists.{At, here, there}
use Rattle.semantics.specs.Methods.{Each}

pub at_within : {X : Type 0} {xs : List X} {k : ℕ} {x : X} → At xs k x → k < length xs
at_within here = omega arith
at_within {k} (there {xs} {k = j} a) = let l : j < length xs = at_within a in omega arith

pub within_at : {X : Type 0} (xs : List X) (k : ℕ) → k < length xs → (x : X) × At xs k x
within_at [] k h = absurd (omega arith)
within_at (x ∷ xs) zero h = (x, here)
within_at (x ∷ xs) (suc k) h = let r = within_at xs k (omega arith) in (r.0, there r.1)

pub at_front : {X : Type 0} {xs : List X} (ys : List X) {k : ℕ} {x : X} → At xs k x → At (xs ++ ys) k x
at_front ys here = here
at_front ys (there a) = there (at_front ys a)

pub at_last : {X : Type 0} (xs : List X) (x : X) → At (xs ++ x ∷ []) (length xs) x
at_last [] x = here
at_last (y ∷ ys) x = there (at_last ys x)

pub at_push : {X : Type 0} (xs : List X) (y : X) {k : ℕ} {x : X} → At (xs ++ y ∷ []) k x → At xs k x ⊎ ((k ≡ length xs) × (x ≡ y))
at_push [] y here = inr (refl, refl)
at_push [] y (there a) = elim a [ ]
at_push (z ∷ zs) y here = inl here
at_push (z ∷ zs) y (there a) = ⊎_elim (λ b. inl (there b)) (λ e. inr (ap suc e.0, e.1)) (at_push zs y a)

pub each_at : {X : Type 0} (P : X → Type 0) {xs : List X} {k : ℕ} {x : X} → Each P xs → At xs k x → P x
each_at P all here = all.0
each_at P all (there a) = each_at P all.1 a

pub each_push : {X : Type 0} (P : X → Type 0) (xs : List X) (x : X) → Each P xs → P x → Each P (xs ++ x ∷ [])
each_push P [] x all p = (p, tt)
each_push P (y ∷ ys) x all p = (all.0, each_push P ys x all.1 p)
