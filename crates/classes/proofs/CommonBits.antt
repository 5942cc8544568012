-- The join of two classes from the bits that both masks have.
use Rattle.std.proofs.Common.{◌≡◌, ℕ, suc, ◌^◌, ◌<◌, ◌≤◌, min, Bool, true, false, List, length, sym, refl, ap, ◌∙◌, ap₂, inl, inr, arith}
use lib.Bits.{bit_and}
use lib.Count.{count_leading_zeros, leading_top, leading_of_zero}
use Rattle.std.proofs.lemmas.Bool.{cases_lt}
use Rattle.semantics.specs.Tree.{Up, Tree, fits, join}
use Rattle.semantics.proofs.TreeOrder as order
use Rattle.semantics.proofs.TreeJoin as joins
use Rattle.classes.specs.Masked.{bit, digit, highest}
use Rattle.classes.proofs.Digit.{bit_and_lem, bit_set_le, bit_highest, pow_le_place}

digit_one : (b : Bool) → digit b ≡ 1 → b ≡ true
digit_one true e = refl
digit_one false e = absurd (omega arith)

-- x and y are the masks of a and b
module _ (ps : List ℕ) (t : Tree ps) (a b x y : ℕ) (of-a : (c : ℕ) → bit x c ≡ digit (fits ps a c)) (of-b : (c : ℕ) → bit y c ≡ digit (fits ps b c)) where
  common : (c : ℕ) → Up ps a c → Up ps b c → bit (bit_and x y) c ≡ 1
  common c u v =
      bit_and_lem x y c ∙ ap₂ min (of-a c ∙ ap digit (order.up_fits ps t u)) (of-b c ∙ ap digit (order.up_fits ps t v))

  in_left : (c : ℕ) → bit (bit_and x y) c ≡ 1 → Up ps a c
  in_left c e =
      let m = bit_and_lem x y c in
      let i : bit x c ≡ 1 = omega arith in
      order.fits_up ps t (digit_one _ (sym (of-a c) ∙ i))

  in_right : (c : ℕ) → bit (bit_and x y) c ≡ 1 → Up ps b c
  in_right c e =
      let m = bit_and_lem x y c in
      let i : bit y c ≡ 1 = omega arith in
      order.fits_up ps t (digit_one _ (sym (of-b c) ∙ i))

  -- the highest common bit is the join
  top_join : (j : ℕ) → 2 ^ j ≤ bit_and x y → bit_and x y < 2 ^ suc j → join ps a b ≡ j
  top_join j l u =
      let e = bit_highest _ j l u in
      joins.join_is ps t (record {
        left = in_left j e;
        right = in_right j e;
        least = λ c v w. order.up_line ps t (in_left j e) v
            (pow_le_place c j (let q : 2 ^ c ≤ bit_and x y = bit_set_le _ c (common c v w) in omega arith));
      })

  -- without one, a class is absent, since both would fit class 0
  none_join : bit_and x y ≡ 0 → join ps a b ≡ 0
  none_join z =
      elim (cases_lt a (length ps)) [
        | inl h ↦ (elim (cases_lt b (length ps)) [
          | inl k ↦ absurd (let q : 2 ^ 0 ≤ bit_and x y = bit_set_le _ 0 (common 0 (order.up_root ps t a h) (order.up_root ps t b k)) in omega arith)
          | inr k ↦ joins.join_absent ps a b (inr k)
        ])
        | inr h ↦ joins.join_absent ps a b (inl h)
      ]

  pub highest_join : bit_and x y < 2 ^ 64 → highest (bit_and x y) ≡ join ps a b
  highest_join small =
      elim (cases_lt 0 (bit_and x y)) [
        | inl h ↦ (
            let w = leading_top 64 (bit_and x y) h small in
            let e = top_join w.0 w.2 w.3 in
            omega (arith, w.1))
        | inr h ↦ (
            let z : bit_and x y ≡ 0 = omega arith in
            let l : count_leading_zeros 64 (bit_and x y) ≡ 64 = ap (count_leading_zeros 64) z ∙ leading_of_zero 64 in
            let e = none_join z in
            omega arith)
      ]
