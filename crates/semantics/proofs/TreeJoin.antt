-- The join, and how deep a class lies.
use Rattle.std.proofs.Common.{◌≡◌, ℕ, zero, suc, ◌-◌, ◌<◌, ◌≤◌, Bool, true, false, cond, ◌⊎◌, List, [], ◌∷◌, length, sym, refl, ap, ◌∙◌, subst, inl, inr, arith}
use Rattle.std.proofs.lemmas.Bool.{both_ways}
use Rattle.semantics.specs.Tree.{parent, Up, here, above, Deepest, Tree, line, first, fits, join, depth}
use Rattle.semantics.proofs.TreeOrder as order

-- a class that both fit, and that fits whatever both fit
pub record Least (ps : List ℕ) (a b j : ℕ) : Type 0 where
  pub left : Up ps a j
  pub right : Up ps b j
  pub least : (c : ℕ) → Up ps a c → Up ps b c → Up ps j c

first_none : (f : ℕ → Bool) (xs : List ℕ) → ((x : ℕ) → f x ≡ false) → first f xs ≡ 0
first_none f [] none = refl
first_none f (x ∷ xs) none = ap (λ (b : Bool). cond b x (first f xs)) (none x) ∙ first_none f xs none

pub first_same : (f g : ℕ → Bool) (xs : List ℕ) → ((x : ℕ) → f x ≡ g x) → first f xs ≡ first g xs
first_same f g [] same = refl
first_same f g (x ∷ xs) same =
    ap (λ (b : Bool). cond b x (first f xs)) (same x) ∙ ap (cond (g x) x) (first_same f g xs same)

-- with an absent number, on any list
pub join_absent : (ps : List ℕ) (a b : ℕ) → (length ps ≤ a) ⊎ (length ps ≤ b) → join ps a b ≡ 0
unfolding join
join_absent ps a b (inl h) = ap (first (fits ps b)) (order.line_absent ps a h)
join_absent ps a b (inr h) = first_none (fits ps b) (line ps a) (λ x. order.absent_fits ps b x h)

module _ (ps : List ℕ) (t : Tree ps) where
  -- how deep a class lies, by its first step up
  pub depth_root : depth ps 0 ≡ 0
  unfolding depth
  depth_root = ap (λ (xs : List ℕ). length xs - 1) (order.line_root ps t)

  pub line_some : (a : ℕ) → a < length ps → 0 < length (line ps a)
  line_some zero h = let e = ap length (order.line_root ps t) in omega arith
  line_some (suc a) h = let e = ap length (order.line_step ps t (suc a) (omega arith) h) in omega arith

  pub depth_step : (a : ℕ) → 0 < a → a < length ps → depth ps a ≡ suc (depth ps (parent ps a))
  unfolding depth
  depth_step a z h =
      let e = ap length (order.line_step ps t a z h) in
      let s = line_some (parent ps a) (order.parent_lt ps t a h) in
      omega arith

  depth_parent : (a : ℕ) → a < length ps → depth ps (parent ps a) ≤ depth ps a
  depth_parent zero h = let e = ap (depth ps) t.root in omega arith
  depth_parent (suc a) h = let e = depth_step (suc a) (omega arith) h in omega arith

  pub up_depth : {a b : ℕ} → Up ps a b → depth ps b ≤ depth ps a
  up_depth (here h) = omega arith
  up_depth {a} {b} (above h u) =
      let e : depth ps b ≤ depth ps (parent ps a) = up_depth u in let f = depth_parent a h in omega arith

  -- on one line no two classes lie equally deep
  pub up_depth_same : (a : ℕ) {b : ℕ} → Up ps a b → depth ps a ≤ depth ps b → a ≡ b
  up_depth_same a (here h) l = refl
  up_depth_same zero {b} (above h u) l = let k : b ≤ 0 = order.up_le ps t (above h u) in omega arith
  up_depth_same (suc a) {b} (above h u) l =
      let e : depth ps b ≤ depth ps (parent ps (suc a)) = up_depth u in
      let f = depth_step (suc a) (omega arith) h in
      absurd (omega arith)

  -- the join: the first class on the line of a that b fits
  first_least : (n a b : ℕ) → a < length ps → b < length ps → a ≤ n → Least ps a b (first (fits ps b) (line ps a))
  first_least n zero b h k l =
      subst (λ (xs : List ℕ). Least ps 0 b (first (fits ps b) xs)) (sym (order.line_root ps t)) (go (fits ps b 0))
    where
      go : (s : Bool) → Least ps 0 b (cond s 0 0)
      go true = record { left = here h; right = order.up_root ps t b k; least = λ c u v. u }
      go false = record { left = here h; right = order.up_root ps t b k; least = λ c u v. u }
  first_least zero (suc a) b h k l = absurd (omega arith)
  first_least (suc n) (suc a) b h k l =
      subst (λ (xs : List ℕ). Least ps (suc a) b (first (fits ps b) xs)) (sym (order.line_step ps t (suc a) (omega arith) h))
      (go (fits ps b (suc a)) refl (first_least n p b (order.parent_lt ps t (suc a) h) k (order.parent_le ps t (suc a) n h l)))
    where
      p : ℕ
      p = parent ps (suc a)

      go : (s : Bool) → fits ps b (suc a) ≡ s → Least ps (parent ps (suc a)) b (first (fits ps b) (line ps (parent ps (suc a))))
          → Least ps (suc a) b (cond s (suc a) (first (fits ps b) (line ps (parent ps (suc a)))))
      go true e i = record { left = here h; right = order.fits_up ps t e; least = λ c u v. u }
      go false e i = record {
        left = above h i.left;
        right = i.right;
        least = λ c u v. elim (order.up_cases u) [
          | inl s ↦ absurd (both_ways _ e (order.up_fits ps t (subst (λ (x : ℕ). Up ps b x) (sym s) v)))
          | inr w ↦ i.least c w v
        ];
      }

  pub join_least : (a b : ℕ) → a < length ps → b < length ps → Least ps a b (join ps a b)
  unfolding join
  join_least a b h k = first_least a a b h k (omega arith)

  pub least_only : {a b j k : ℕ} → Least ps a b j → Least ps a b k → j ≡ k
  least_only {j = j} {k = k} x y = order.up_antisym ps t (x.least k y.left y.right) (y.least j x.left x.right)

  pub join_is : {a b j : ℕ} → Least ps a b j → join ps a b ≡ j
  join_is {a} {b} i = least_only (join_least a b (order.up_left i.left) (order.up_left i.right)) i

  pub least_deepest : {a b j : ℕ} → Least ps a b j → Deepest ps a b j
  least_deepest i = record { left = i.left; right = i.right; deepest = λ c u v. up_depth (i.least c u v) }

  pub join_deepest : (a b j : ℕ) → a < length ps → b < length ps → j ≡ join ps a b → Deepest ps a b j
  join_deepest a b j h k e = subst (Deepest ps a b) (sym e) (least_deepest (join_least a b h k))

  pub deepest_only : {a b j : ℕ} → Deepest ps a b j → j ≡ join ps a b
  deepest_only {a} {b} {j} d =
      let i = join_least a b (order.up_left d.left) (order.up_left d.right) in
      sym (up_depth_same (join ps a b) (i.least j d.left d.right) (d.deepest (join ps a b) i.left i.right))

  pub join_same : (a : ℕ) → a < length ps → join ps a a ≡ a
  join_same a h = join_is (record { left = here h; right = here h; least = λ c u v. u })

  pub join_comm : (a b : ℕ) → a < length ps → b < length ps → join ps a b ≡ join ps b a
  join_comm a b h k =
      let i = join_least b a k h in
      join_is (record { left = i.right; right = i.left; least = λ c u v. i.least c v u })

  -- the step of a climb
  pub join_climb : (a b : ℕ) → a < length ps → b < a → join ps a b ≡ join ps (parent ps a) b
  join_climb a b h l =
      let k : b < length ps = omega arith in
      let i = join_least (parent ps a) b (order.parent_lt ps t a h) k in
      join_is (record {
        left = above h i.left;
        right = i.right;
        least = λ c u v. i.least c (order.up_parent u (let m : c ≤ b = order.up_le ps t v in omega arith)) v;
      })
