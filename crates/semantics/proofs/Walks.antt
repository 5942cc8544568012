-- Loops over lists: what the exit of a `?` returns, the item of a turn, a turn and the end of a walk.
use Rattle.std.proofs.Common.{◌≡◌, ℕ, ◌+◌, ◌<◌, ◌≤◌, List, [], ◌∷◌, length, get_or, drop, IsErrAnd, Ok, Err, Result, sym, refl, ap, ◌∙◌}
use Rattle.std.proofs.lemmas.List.{at_drop_more, at_drop_all}
use Rattle.std.proofs.lemmas.Result.{err_from_is_err_and}
use Rattle.semantics.specs.declared.refusal.Refusal.{Refusal}
use Rattle.semantics.specs.Reading.{so}

-- what the exit of a `?` returns
pub exits : {X E : Type 0} (r : Result X E) (d : E) → IsErrAnd r (λ e. e ≡ d) → r ≡ Err d
exits r d h = let p = err_from_is_err_and r h in p.1 ∙ ap Err p.2

-- the item that a turn is at
pub item_at : {X : Type 0} (xs : List X) (i : ℕ) (x : X) → i < length xs → x ≡ get_or xs i x → drop i xs ≡ x ∷ drop (i + 1) xs
item_at xs i x h e = at_drop_more (λ l. l) xs i x h ∙ ap (λ y. y ∷ drop (i + 1) xs) (sym e)

-- a turn of the walk F, which goes on or ends by the answer t to a test
pub walk_step : {X R M : Type 0} (F : List X → R) (G : M → R) (xs : List X) (i : ℕ) (x : X) (t m : M) (all : R) → drop i xs ≡ x ∷ drop (i + 1) xs → t ≡ m → F (x ∷ drop (i + 1) xs) ≡ G m → F (drop i xs) ≡ all → G t ≡ all
walk_step F G xs i x t m all at e by inv = ap G e ∙ sym by ∙ ap F (sym at) ∙ inv

-- the end of a walk, at which nothing is left
pub walk_end : {X R : Type 0} (F : List X → R) (xs : List X) (i : ℕ) (all : R) → length xs ≤ i → F (drop i xs) ≡ all → F [] ≡ all
walk_end F xs i all h inv = sym (at_drop_all F xs i h) ∙ inv

-- three parts, one after the other
pub so_so : {X Y Z : Type 0} (r : Result X Refusal) (f : X → Result Y Refusal) (h : Y → Result Z Refusal) → so r (λ x. so (f x) h) ≡ so (so r f) h
so_so (Ok x) f h = refl
so_so (Err e) f h = refl
