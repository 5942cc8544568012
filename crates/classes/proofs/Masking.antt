-- Masks that are sums of their own bit and their parent's mask.
use Rattle.std.proofs.Common.{◌≡◌, ℕ, zero, suc, ◌+◌, ◌-◌, ◌*◌, ◌^◌, ◌<◌, ◌≤◌, Option, None, Some, IfNone, IfSome, unwrap_or, List, [], ◌∷◌, ◌++◌, length, get_or, sym, refl, ap, ◌∙◌, inl, inr, one-mul, pow-suc, arith, pow_pos, pow_mono}
use lib.Count.{count_leading_zeros, ones, ones_in, ones_cat, leading_top}
use Rattle.std.proofs.lemmas.List.{length_push, get_or_push, get_or_append_left}
use Rattle.std.proofs.lemmas.Bool.{cases_order, cases_lt}
use Rattle.semantics.specs.Tree.{max_classes, parent, Tree, depth, fits}
use Rattle.semantics.proofs.TreeOrder as order
use Rattle.semantics.proofs.TreeJoin as joins
use Rattle.classes.specs.Masked.{bit, digit, highest, reads, Steps}
use Rattle.classes.proofs.Digit.{bit_past, bit_under, bit_highest, pow_le_place}

-- the parents that masks tell
pub length_reads : (k : ℕ) (ms : List ℕ) → length (reads k ms) ≡ length ms
length_reads k [] = refl
length_reads k (m ∷ ms) = ap suc (length_reads (suc k) ms)

pub reads_push : (k : ℕ) (ms : List ℕ) (m : ℕ) → reads k (ms ++ m ∷ []) ≡ reads k ms ++ highest (m - 2 ^ (k + length ms)) ∷ []
reads_push k [] m = ap (λ (x : ℕ). highest (m - 2 ^ x) ∷ []) (omega arith)
reads_push k (x ∷ ms) m =
    ap (λ (l : List ℕ). highest (x - 2 ^ k) ∷ l)
    (reads_push (suc k) ms m ∙ ap (λ (z : ℕ). reads (suc k) ms ++ highest (m - 2 ^ z) ∷ []) (omega arith))

highest_is : (m j : ℕ) → j < 64 → 2 ^ j ≤ m → m < 2 ^ suc j → highest m ≡ j
highest_is m j h l u =
    let big : m < 2 ^ 64 = (let z : 2 ^ suc j ≤ 2 ^ 64 = pow_mono h in omega arith) in
    let q = pow_pos j in
    let w = leading_top 64 m (omega arith) big in
    let a : j ≤ w.0 = pow_le_place j w.0 (omega (arith, w.3)) in
    let b : w.0 ≤ j = pow_le_place w.0 j (omega (arith, w.2)) in
    omega (arith, w.1)

highest_zero : highest 0 ≡ 0
unfolding count_leading_zeros
highest_zero = refl

-- the highest bit is the logarithm, or 0 where there is none
pub highest_told : (m : ℕ) (r : Option ℕ) → IfNone r (m ≡ 0) → IfSome r (λ k. 2 ^ k ≤ m) → IfSome r (λ k. m < 2 * 2 ^ k) → IfSome r (λ k. k < 64) → unwrap_or r 0 ≡ highest m
highest_told m None z l u b = sym (ap highest z ∙ highest_zero)
highest_told m (Some k) z l u b = sym (highest_is m k b l (omega arith))

one_one : ones 1 ≡ 1
unfolding ones ones_in
one_one = refl

ones_more : (k r : ℕ) → r < 2 ^ k → ones (2 ^ k + r) ≡ suc (ones r)
ones_more k r h =
    ap (λ (x : ℕ). ones (x + r)) (sym (one-mul (2 ^ k))) ∙ ones_cat k 1 r h ∙ ap (λ (x : ℕ). x + ones r) one_one ∙ omega arith

-- the mask of a new class under p, and the masks with it
abbrev pub new_mask : List ℕ → ℕ → ℕ
new_mask ms p = 2 ^ length ms + get_or ms p 0

abbrev pub grown : List ℕ → ℕ → List ℕ
grown ms p = ms ++ new_mask ms p ∷ []

module _ (ms : List ℕ) (t : Tree (reads 0 ms)) (first : get_or ms 0 0 ≡ 1) (steps : Steps ms) where
  size : length (reads 0 ms) ≡ length ms
  size = length_reads 0 ms

  -- a mask has its own bit, and none above
  lt_in : (n a : ℕ) → a < length ms → a ≤ n → get_or ms a 0 < 2 ^ suc a
  lt_in n zero h l = omega arith
  lt_in zero (suc a) h l = absurd (omega arith)
  lt_in (suc n) (suc a) h l =
      let z = size in
      let p = parent (reads 0 ms) (suc a) in
      let e : get_or ms (suc a) 0 ≡ 2 ^ suc a + get_or ms (parent (reads 0 ms) (suc a)) 0 = steps (suc a) (omega arith) h in
      let q : parent (reads 0 ms) (suc a) < suc a = t.lower (suc a) (omega arith) (omega arith) in
      let i : get_or ms (parent (reads 0 ms) (suc a)) 0 < 2 ^ suc (parent (reads 0 ms) (suc a)) =
      lt_in n (parent (reads 0 ms) (suc a)) (omega arith) (omega arith) in
      let m : 2 ^ suc (parent (reads 0 ms) (suc a)) ≤ 2 ^ suc a = pow_mono q in
      let d = pow-suc 2 (suc a) in
      omega arith

  mask_lt : (a : ℕ) → a < length ms → get_or ms a 0 < 2 ^ suc a
  mask_lt a h = lt_in a a h (omega arith)

  pub mask_small : (a k : ℕ) → a < length ms → a < k → get_or ms a 0 < 2 ^ k
  mask_small a k h l = let i = mask_lt a h in let m : 2 ^ suc a ≤ 2 ^ k = pow_mono l in omega arith

  mask_own : (a : ℕ) → a < length ms → 2 ^ a ≤ get_or ms a 0
  mask_own zero h = omega arith
  mask_own (suc a) h = let e = steps (suc a) (omega arith) h in omega arith

  -- the bit of the class itself, of a higher number and of a lower one
  bit_own : (a b : ℕ) → a < length ms → a ≡ b → bit (get_or ms a 0) b ≡ digit (fits (reads 0 ms) a b)
  bit_own a b h e =
      let z = size in
      let k : a < length (reads 0 ms) = omega arith in
      ap (bit (get_or ms a 0)) (sym e) ∙ bit_highest (get_or ms a 0) a (mask_own a h) (mask_lt a h)
      ∙ ap digit (sym (ap (fits (reads 0 ms) a) (sym e) ∙ order.fits_same (reads 0 ms) t a k))

  bit_above : (a b : ℕ) → a < length ms → a < b → bit (get_or ms a 0) b ≡ digit (fits (reads 0 ms) a b)
  bit_above a b h g = bit_past (get_or ms a 0) b (mask_small a b h g) ∙ ap digit (sym (order.fits_below (reads 0 ms) t a b g))

  bit_below : (a b : ℕ) → a < length ms → b < a
      → bit (get_or ms (parent (reads 0 ms) a) 0) b ≡ digit (fits (reads 0 ms) (parent (reads 0 ms) a) b)
      → bit (get_or ms a 0) b ≡ digit (fits (reads 0 ms) a b)
  bit_below a b h g i =
      let z = size in
      let k : a < length (reads 0 ms) = omega arith in
      ap (λ (x : ℕ). bit x b) (steps a (omega arith) h) ∙ bit_under a b (get_or ms (parent (reads 0 ms) a) 0) g ∙ i
      ∙ ap digit (sym (order.fits_climb (reads 0 ms) t a b k g))

  bits_in : (n a b : ℕ) → a < length ms → a ≤ n → bit (get_or ms a 0) b ≡ digit (fits (reads 0 ms) a b)
  bits_in zero a b h l = elim (cases_lt a b) [ inl g ↦ bit_above a b h g | inr g ↦ bit_own a b h (omega arith) ]
  bits_in (suc n) a b h l =
      let z = size in
      let k : a < length (reads 0 ms) = omega arith in
      let q = order.parent_lt (reads 0 ms) t a k in
      let i = bits_in n (parent (reads 0 ms) a) b (omega arith) (order.parent_le (reads 0 ms) t a n k l) in
      elim (cases_order a b) [
        | inl e ↦ bit_own a b h e
        | inr o ↦ (elim o [ inl g ↦ bit_above a b h g | inr g ↦ bit_below a b h g i ])
      ]

  -- the bits are the classes that the class fits
  pub bits : (a b : ℕ) → a < length ms → bit (get_or ms a 0) b ≡ digit (fits (reads 0 ms) a b)
  bits a b h = bits_in a a b h (omega arith)

  -- and they count the class and its parents
  ones_within : (n a : ℕ) → a < length ms → a ≤ n → ones (get_or ms a 0) ≡ suc (depth (reads 0 ms) a)
  ones_within n zero h l = ap ones first ∙ one_one ∙ ap suc (sym (joins.depth_root (reads 0 ms) t))
  ones_within zero (suc a) h l = absurd (omega arith)
  ones_within (suc n) (suc a) h l =
      let z = size in
      let k : suc a < length (reads 0 ms) = omega arith in
      let q : parent (reads 0 ms) (suc a) < suc a = t.lower (suc a) (omega arith) k in
      let m : parent (reads 0 ms) (suc a) < length ms = omega arith in
      ap ones (steps (suc a) (omega arith) h)
      ∙ ones_more (suc a) (get_or ms (parent (reads 0 ms) (suc a)) 0) (mask_small (parent (reads 0 ms) (suc a)) (suc a) m q)
      ∙ ap suc (ones_within n (parent (reads 0 ms) (suc a)) m (omega arith) ∙ sym (joins.depth_step (reads 0 ms) t (suc a) (omega arith) k))

  pub ones_depth : (a : ℕ) → a < length ms → ones (get_or ms a 0) ≡ suc (depth (reads 0 ms) a)
  ones_depth a h = ones_within a a h (omega arith)

  -- one class more, under the class p
  module _ (p : ℕ) (under : p < length ms) (room : length ms < max_classes) where
    pub new_reads : reads 0 (grown ms p) ≡ reads 0 ms ++ p ∷ []
    new_reads =
        let i : 2 ^ length ms + get_or ms p 0 - 2 ^ (0 + length ms) ≡ get_or ms p 0 =
        (let j : 2 ^ (0 + length ms) ≡ 2 ^ length ms = ap (λ (x : ℕ). 2 ^ x) (omega arith) in omega arith) in
        reads_push 0 ms (new_mask ms p)
        ∙ ap (λ (x : ℕ). reads 0 ms ++ x ∷ [])
        (ap highest i ∙ highest_is (get_or ms p 0) p (omega arith) (mask_own p under) (mask_lt p under))

    mask_old : (k : ℕ) → k < length ms → get_or (grown ms p) k 0 ≡ get_or ms k 0
    mask_old k h = get_or_append_left ms (new_mask ms p ∷ []) 0 k h

    pub new_first : get_or (grown ms p) 0 0 ≡ 1
    new_first = mask_old 0 (omega arith) ∙ first

    -- a mask m at k with its parent q: what the sum asks
    step_at : (k q m : ℕ) → get_or (grown ms p) k 0 ≡ m → get_or (reads 0 ms ++ p ∷ []) k 0 ≡ q
        → q < length ms → m ≡ 2 ^ k + get_or ms q 0
        → get_or (grown ms p) k 0
        ≡ 2 ^ k + get_or (grown ms p) (get_or (reads 0 (grown ms p)) k 0) 0
    step_at k q m here above l e =
        here ∙ e
        ∙ ap (λ (x : ℕ). 2 ^ k + x)
        (sym (mask_old q l)
        ∙ ap (λ (x : ℕ). get_or (grown ms p) x 0)
        (sym (ap (λ (l : List ℕ). get_or l k 0) new_reads ∙ above)))

    pub new_steps : Steps (grown ms p)
    new_steps k z h =
        let e = length_push ms (new_mask ms p) in
        let f = size in
        elim (cases_lt k (length ms)) [
          | inl l ↦ (
              let m : k < length (reads 0 ms) = omega arith in
              let o = order.parent_lt (reads 0 ms) t k m in
              step_at k (parent (reads 0 ms) k) (get_or ms k 0) (mask_old k l) (get_or_append_left (reads 0 ms) (p ∷ []) 0 k m) (omega arith) (steps k z l))
          | inr l ↦ (
              let q : length ms ≡ k = omega arith in
              step_at k p (new_mask ms p) (get_or_push ms (new_mask ms p) 0 k q)
              (get_or_push (reads 0 ms) p 0 k (omega arith)) under (ap (λ (x : ℕ). 2 ^ x + get_or ms p 0) q))
        ]
