-- The mask table: what its masks tell of its tree.
use Rattle.std.proofs.Common.{◌≡◌, ℕ, zero, suc, ◌+◌, ◌*◌, ◌/◌, ◌%◌, ◌^◌, ◌<◌, ◌≤◌, Bool, true, false, eqb, List, [], ◌∷◌, ◌++◌, length, get_or, Ok, Err, sym, refl, ap, ◌∙◌, subst, ap₂, inl, inr, one-mul, arith, pow_pos}
use lib.Bits.{bit_and, bit_or, or_shifted_r}
use lib.Count.{count_leading_zeros, ones}
use Rattle.std.proofs.lemmas.Nat.{one_shl}
use Rattle.std.proofs.lemmas.List.{get_or_past}
use Rattle.std.proofs.lemmas.Bool.{cases_lt}
use Rattle.semantics.specs.declared.refusal.Capacity.TheVariants.{Depth}
use Rattle.semantics.specs.declared.refusal.Refusal.TheVariants.{Full}
use Rattle.semantics.specs.Tree.{max_classes, max_depth, blank, Tree, Shape, depth, fits, adding}
use Rattle.semantics.proofs.TreeOrder as order
use Rattle.semantics.proofs.TreeGrowth as growth
use Rattle.classes.specs.Masked.{bit, digit, reads, Steps}
use Rattle.classes.proofs.Digit.{bit_past, low_bit}
use Rattle.classes.proofs.Masking as masking

-- the bits of a new class under one whose mask is m, where n classes are there
abbrev pub new_bits : ℕ → ℕ → ℕ
new_bits n m = bit_or m ((1 * 2 ^ n) % 2 ^ 64)

eqb_digit : (b : Bool) → eqb (digit b) 1 ≡ b
eqb_digit true = refl
eqb_digit false = refl

-- a bit that was shifted down, as a test
pub bit_test : (m b : ℕ) (r : Bool) → bit m b ≡ digit r → eqb (bit_and (m / 2 ^ b) 1) 1 ≡ r
bit_test m b r e = ap (λ (x : ℕ). eqb x 1) (low_bit (m / 2 ^ b) ∙ e) ∙ eqb_digit r

module _ (ms : List ℕ) (shape : Shape (reads 0 ms)) (first : get_or ms 0 0 ≡ 1) (steps : Steps ms) where
  pub tree : Tree (reads 0 ms)
  tree = order.tree_from shape

  pub size : length (reads 0 ms) ≡ length ms
  size = masking.length_reads 0 ms

  -- the bits are the classes that the class fits, and none for an absent number
  pub bits : (a b : ℕ) → bit (get_or ms a 0) b ≡ digit (fits (reads 0 ms) a b)
  bits a b =
      let g = size in
      elim (cases_lt a (length ms)) [
        | inl l ↦ masking.bits ms tree first steps a b l
        | inr l ↦ (ap (λ (x : ℕ). bit x b) (get_or_past ms a 0 l) ∙ bit_zero b ∙ ap digit (sym (order.absent_fits (reads 0 ms) a b (omega arith))))
      ]
    where
      bit_zero : (b : ℕ) → bit 0 b ≡ 0
      bit_zero b = bit_past 0 b (pow_pos b)

  -- a class p and its mask m, under which a class is to come
  module _ (p m : ℕ) (mask : m ≡ get_or ms p 0) (under : p < length ms) (room : length ms < max_classes) where
    deeper : ones m ≡ suc (depth (reads 0 ms) p)
    deeper = ap ones mask ∙ masking.ones_depth ms tree first steps p under

    pub adding_deep : max_depth < ones m → Err (Full Depth) ≡ adding (reads 0 ms) p
    adding_deep d = let e = deeper in growth.adding_deep (reads 0 ms) (length ms) p size under room (omega arith)

    -- the masks with that of the new class
    pub row : ms ++ new_bits (length ms) m ∷ [] ≡ masking.grown ms p
    row =
        let small : get_or ms p 0 < 2 ^ length ms = masking.mask_small ms tree first steps p (length ms) under under in
        ap (λ (x : ℕ). ms ++ x ∷ []) (
        ap₂ bit_or mask (one_shl (length ms) 64 room ∙ sym (one-mul (2 ^ length ms)))
        ∙ or_shifted_r 1 (length ms) (get_or ms p 0) small
        ∙ ap (λ (x : ℕ). x + get_or ms p 0) (one-mul (2 ^ length ms)))

    pub list : reads 0 (ms ++ new_bits (length ms) m ∷ []) ≡ reads 0 ms ++ p ∷ []
    list = ap (reads 0) row ∙ masking.new_reads ms tree first steps p under room

    pub new_first : get_or (ms ++ new_bits (length ms) m ∷ []) 0 0 ≡ 1
    new_first = ap (λ (l : List ℕ). get_or l 0 0) row ∙ masking.new_first ms tree first steps p under room

    pub new_steps : Steps (ms ++ new_bits (length ms) m ∷ [])
    new_steps = subst Steps (sym row) (masking.new_steps ms tree first steps p under room)

    module _ (low : ones m ≤ max_depth) where
      pub new_shape : Shape (reads 0 (ms ++ new_bits (length ms) m ∷ []))
      new_shape =
          let e = deeper in let f = size in
          subst Shape (sym list) (order.tree_shape (growth.tree_push (reads 0 ms) tree p (omega arith) (omega arith) (omega arith)))

      pub adding_ok : Ok (length ms) ≡ adding (reads 0 ms) p
      adding_ok = let e = deeper in growth.adding_ok (reads 0 ms) (length ms) p size under room (omega arith)

-- the three masks of a blank card
pub blank_reads : reads 0 (1 ∷ 3 ∷ 5 ∷ []) ≡ blank
unfolding count_leading_zeros
blank_reads = refl

pub blank_shape : Shape (reads 0 (1 ∷ 3 ∷ 5 ∷ []))
blank_shape = subst Shape (sym blank_reads) (order.tree_shape growth.blank_tree)

blank_at : (k : ℕ) → 0 < k → k < 3 → get_or (1 ∷ 3 ∷ 5 ∷ []) k 0 ≡ 2 ^ k + get_or (1 ∷ 3 ∷ 5 ∷ []) (get_or blank k 0) 0
blank_at zero z h = absurd (omega arith)
blank_at (suc zero) z h = refl
blank_at (suc (suc zero)) z h = refl
blank_at (suc (suc (suc k))) z h = absurd (omega arith)

pub blank_steps : Steps (1 ∷ 3 ∷ 5 ∷ [])
blank_steps k z h =
    blank_at k z h ∙ ap (λ (l : List ℕ). 2 ^ k + get_or (1 ∷ 3 ∷ 5 ∷ []) (get_or l k 0) 0) (sym blank_reads)
