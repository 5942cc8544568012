-- Rows that are made item by item.
use Rattle.std.proofs.Common.{◌≡◌, ℕ, ◌+◌, ◌<◌, ◌≤◌, List, [], ◌∷◌, ◌++◌, map, length, get_or, take, sym, ap, ◌∙◌, arith}
use Rattle.std.proofs.lemmas.List.{length-take, length-take-le, length-map, map_more}
use Rattle.std.proofs.lemmas.Bool.{lt-ltb, cond-true}
use Rattle.semantics.specs.declared.array_vec.ArrayVec.{ArrayVec}
use Rattle.semantics.specs.Items.{items_of, pushed}

pub few_items : {T : Type 0} {N : ℕ} (v : ArrayVec T N) → length (items_of v) ≤ N
few_items v = omega (arith, length-take v.count v.items, v.few)

-- one more of the cells ys of the items xs
pub collected : {X Y : Type 0} (f : X → Y) (n i : ℕ) (xs : List X) (d : X) (ys zs : List Y) (y : Y) → ys ≡ map f (take i xs) → zs ≡ pushed n ys y → y ≡ f (get_or xs i d) → i < length xs → length xs ≤ n → zs ≡ map f (take (i + 1) xs)
collected f n i xs d ys zs y e p at h k =
    let l : length ys ≡ i = ap length e ∙ length-map (take i xs) f ∙ length-take-le i xs (omega arith) in
    p ∙ cond-true _ _ _ (lt-ltb (length ys) n (omega arith)) ∙ (λ j. e j ++ at j ∷ []) ∙ sym (map_more f xs i d h)
