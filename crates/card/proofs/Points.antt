-- The points of rows as a sum.
use Rattle.std.proofs.Common.{◌≡◌, ℕ, ◌+◌, ◌*◌, ◌≤◌, ◌<◌, ◌^◌, List, [], ◌∷◌, map, length, refl, ap, sym, ◌∙◌, subst, arith}
use Rattle.std.specs.List.{sum}
use Rattle.std.proofs.lemmas.List.{length-map, length-take}
use Rattle.std.proofs.lemmas.List.Sums.{sum_by-cons}
use Rattle.semantics.specs.declared.array_vec.ArrayVec.{ArrayVec}
use Rattle.semantics.specs.declared.body.Body.{Body}
use Rattle.semantics.specs.declared.body.Body.TheVariants as body
use Rattle.semantics.specs.Items.{items_of}
use Rattle.semantics.specs.Methods.{op_of}
use Rattle.semantics.specs.Stores.{body_of, points_in, points_of}

abbrev pub in_body : Body → ℕ
in_body b = points_in (body_of b)

pub summed : (xs : List Body) → sum (map in_body xs) ≡ points_of (map body_of xs)
summed [] = refl
summed (x ∷ xs) = sum_by-cons (λ n. n) (in_body x) (map in_body xs) ∙ ap (λ n. in_body x + n) (summed xs)

few_items : {T : Type 0} {N : ℕ} (v : ArrayVec T N) → length (items_of v) ≤ N
few_items v = omega (arith, v.few, v.long, length-take v.count v.items)

few_points : (b : Body) → in_body b ≤ 64
few_points body.Native = omega arith
few_points (body.Coded code) = omega (arith, few_items code.points, length-map (items_of code.points) op_of)

bounded : (xs : List Body) → points_of (map body_of xs) ≤ 64 * length xs
bounded [] = omega arith
bounded (x ∷ xs) = omega (arith, few_points x, bounded xs)

-- the sum is a number of the machine
pub fit : (v : ArrayVec Body 64) → sum (map in_body (items_of v)) < 2 ^ 64
fit v = subst (λ n. n < 2 ^ 64) (sym (summed (items_of v))) (omega (arith, bounded (items_of v), few_items v))
