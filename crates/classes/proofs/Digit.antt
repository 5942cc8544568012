-- Binary digits.
use Rattle.std.proofs.Common.{◌≡◌, ℕ, suc, ◌+◌, ◌-◌, ◌*◌, ◌/◌, ◌%◌, ◌^◌, ◌<◌, ◌≤◌, min, ap, ◌∙◌, inl, inr, mod-eq_of_lt, add_comm, pow-suc, arith, pow_pos, pow_mono, pow-add}
use native.Mathlib.Nat.{div-eq_of_lt, add-div_left, add-mul-div_right, add-mul-mod_self_right, mul-add-mod_self_right}
use lib.Bits.{bit_and, and_shr, and_step, and_mask}
use Rattle.std.proofs.lemmas.Bool.{cases_lt}
use Rattle.classes.specs.Masked.{bit}

pub bit_past : (m b : ℕ) → m < 2 ^ b → bit m b ≡ 0
bit_past m b h = ap (λ (x : ℕ). x % 2) (div-eq_of_lt h)

pub bit_top : (k r : ℕ) → r < 2 ^ k → bit (2 ^ k + r) k ≡ 1
bit_top k r h = ap (λ (x : ℕ). x % 2) (add-div_left r (pow_pos k) ∙ ap (λ (x : ℕ). x + 1) (div-eq_of_lt h))

under_at : (d b r : ℕ) → bit (2 ^ (suc d + b) + r) b ≡ bit r b
under_at d b r =
    ap (λ (x : ℕ). bit (x + r) b) (pow-add 2 (suc d) b)
    ∙ ap (λ (x : ℕ). x / 2 ^ b % 2) (add_comm (2 ^ suc d * 2 ^ b) r)
    ∙ ap (λ (x : ℕ). x % 2) (add-mul-div_right r (2 ^ suc d) (pow_pos b))
    ∙ ap (λ (x : ℕ). (r / 2 ^ b + x) % 2) (pow-suc 2 d)
    ∙ add-mul-mod_self_right (r / 2 ^ b) (2 ^ d) 2

pub bit_under : (k b r : ℕ) → b < k → bit (2 ^ k + r) b ≡ bit r b
bit_under k b r h =
    let e : k ≡ suc (k - suc b) + b = omega arith in
    ap (λ (x : ℕ). bit (2 ^ x + r) b) e ∙ under_at (k - suc b) b r

pub bit_and_lem : (x y b : ℕ) → bit (bit_and x y) b ≡ min (bit x b) (bit y b)
bit_and_lem x y b =
    let u = x / 2 ^ b in
    let v = y / 2 ^ b in
    ap (λ (z : ℕ). z % 2) (and_shr x y b ∙ and_step u v)
    ∙ mul-add-mod_self_right (bit_and (u / 2) (v / 2)) 2 (min (u % 2) (v % 2))
    ∙ mod-eq_of_lt (omega arith)

pub bit_set_le : (m c : ℕ) → bit m c ≡ 1 → 2 ^ c ≤ m
bit_set_le m c e = elim (cases_lt m (2 ^ c)) [ inl h ↦ absurd (let z = bit_past m c h in omega arith) | inr h ↦ h ]

pub bit_highest : (m j : ℕ) → 2 ^ j ≤ m → m < 2 ^ suc j → bit m j ≡ 1
bit_highest m j h k =
    let p = pow-suc 2 j in
    let e : m ≡ 2 ^ j + (m - 2 ^ j) = omega arith in
    let l : m - 2 ^ j < 2 ^ j = omega arith in
    ap (λ (x : ℕ). bit x j) e ∙ bit_top j (m - 2 ^ j) l

pub pow_le_place : (c j : ℕ) → 2 ^ c < 2 ^ suc j → c ≤ j
pow_le_place c j h =
    elim (cases_lt j c) [ inl l ↦ absurd (let z : 2 ^ suc j ≤ 2 ^ c = pow_mono l in omega arith) | inr l ↦ l ]

pub low_bit : (x : ℕ) → bit_and x 1 ≡ x % 2
low_bit x = and_mask x 1
