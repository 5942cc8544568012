-- The used part of an array, and what a push leaves where there is room.
use Rattle.std.proofs.Common.{◌≡◌, ℕ, ◌+◌, ◌<◌, List, [], ◌∷◌, ◌++◌, length, ap, ◌∙◌, arith}
use Rattle.std.proofs.lemmas.List.{take-replicate, length_push}
use Rattle.std.proofs.lemmas.Bool.{lt-ltb, cond-true}
use Rattle.std.proofs.Math.Seq.{take-set-lt}
use Rattle.semantics.specs.Items.{pushed}

pub ruleset used_part = (take-replicate, take-set-lt)

pub pushed_room : {T : Type 0} (n : ℕ) (xs : List T) (x : T) → length xs < n → pushed n xs x ≡ xs ++ x ∷ []
pushed_room n xs x h = cond-true _ _ _ (lt-ltb _ _ h)

pub pushed_on : {T : Type 0} (n i : ℕ) (xs ys : List T) (x : T) → ys ≡ pushed n xs x → length xs ≡ i → i < n → (ys ≡ xs ++ x ∷ []) × (length ys ≡ i + 1)
pushed_on n i xs ys x e l h =
    let p : ys ≡ xs ++ x ∷ [] = e ∙ pushed_room n xs x (omega arith) in
    (p, omega (arith, ap length p ∙ length_push xs x))
