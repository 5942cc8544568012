-- The climbing table: what its parents tell of its tree.
use Rattle.std.proofs.Common.{◌≡◌, ℕ, suc, ◌+◌, ◌<◌, ◌≤◌, false, eqb, ◌⊎◌, List, [], ◌∷◌, ◌++◌, length, get_or, take, set, Ok, sym, ap, ◌∙◌, subst, inl, inr, arith, length-set}
use Rattle.std.proofs.lemmas.List.{length-take-le, get_or-take, take_more_set}
use Rattle.std.proofs.lemmas.Bool.{eq-eqb, ne_eqb, cases_eq}
use Rattle.semantics.specs.Tree.{max_classes, max_depth, parent, Tree, Shape, depth, fits, join, adding}
use Rattle.semantics.proofs.TreeOrder as order
use Rattle.semantics.proofs.TreeJoin as joins
use Rattle.semantics.proofs.TreeGrowth as growth
use Rattle.classes.specs.declared.climbing.Climbing.{Climbing}

abbrev pub listed : Climbing → List ℕ
listed s = take s.count s.parents

module _ (s : Climbing) where
  tree : Tree (listed s)
  tree = order.tree_from s.tree

  pub size : length (listed s) ≡ s.count
  size = let f = s.few in let l = s.long in length-take-le s.count s.parents (omega arith)

  at : (k : ℕ) → k < s.count → parent (listed s) k ≡ get_or s.parents k 0
  at k l = get_or-take s.count s.parents k 0 l

  -- a step up
  pub low : (k : ℕ) → 0 < k → k < s.count → get_or s.parents k 0 < k
  low k z l =
      let e = at k l in let f = size in
      let m : parent (listed s) k < k = tree.lower k z (omega arith) in omega arith

  pub fits_next : (k b : ℕ) → k < s.count → b < k → fits (listed s) (get_or s.parents k 0) b ≡ fits (listed s) k b
  fits_next k b l z =
      let f = size in
      ap (λ (x : ℕ). fits (listed s) x b) (sym (at k l)) ∙ sym (order.fits_climb (listed s) tree k b (omega arith) z)

  pub join_next : (k b : ℕ) → k < s.count → b < k → join (listed s) (get_or s.parents k 0) b ≡ join (listed s) k b
  join_next k b l z =
      let f = size in
      ap (λ (x : ℕ). join (listed s) x b) (sym (at k l)) ∙ sym (joins.join_climb (listed s) tree k b (omega arith) z)

  join_swap : (a b : ℕ) → a < s.count → b < s.count → join (listed s) a b ≡ join (listed s) b a
  join_swap a b l m = let f = size in joins.join_comm (listed s) tree a b (omega arith) (omega arith)

  pub join_other : (a k : ℕ) → k < s.count → a < k → join (listed s) a (get_or s.parents k 0) ≡ join (listed s) a k
  join_other a k l z =
      let p : get_or s.parents k 0 < k = low k (omega arith) l in
      join_swap a (get_or s.parents k 0) (omega arith) (omega arith) ∙ join_next k a l z ∙ join_swap k a l (omega arith)

  pub depth_next : (k : ℕ) → 0 < k → k < s.count → depth (listed s) k ≡ suc (depth (listed s) (get_or s.parents k 0))
  depth_next k z l =
      let f = size in
      joins.depth_step (listed s) tree k z (omega arith) ∙ ap (λ (x : ℕ). suc (depth (listed s) x)) (at k l)

  -- where the climb ends
  pub fits_end : (k b : ℕ) → k < s.count → k ≤ b → eqb k b ≡ fits (listed s) k b
  fits_end k b l z =
      let f = size in
      elim (cases_eq k b) [
        | inl e ↦ (eq-eqb k b e ∙ sym (ap (fits (listed s) k) (sym e) ∙ order.fits_same (listed s) tree k (omega arith)))
        | inr e ↦ (ne_eqb k b e ∙ sym (order.fits_below (listed s) tree k b (omega arith)))
      ]

  pub join_end : (a b : ℕ) → a < s.count → a ≡ b → a ≡ join (listed s) a b
  join_end a b l e =
      let f = size in
      sym (ap (join (listed s) a) (sym e) ∙ joins.join_same (listed s) tree a (omega arith))

  pub depth_end : (k : ℕ) → k ≤ 0 → depth (listed s) k ≡ 0
  depth_end k z = ap (depth (listed s)) (omega arith) ∙ joins.depth_root (listed s) tree

  -- an absent number
  pub fits_missing : (a b : ℕ) → (s.count ≤ a) ⊎ ((a < s.count) × (s.count ≤ b)) → false ≡ fits (listed s) a b
  fits_missing a b (inl l) = let f = size in sym (order.absent_fits (listed s) a b (omega arith))
  fits_missing a b (inr l) = let f = size in sym (order.fits_absent (listed s) a b (omega arith))

  pub join_missing : (a b : ℕ) → (s.count ≤ a) ⊎ ((a < s.count) × (s.count ≤ b)) → 0 ≡ join (listed s) a b
  join_missing a b (inl l) = let f = size in sym (joins.join_absent (listed s) a b (inl (omega arith)))
  join_missing a b (inr l) = let f = size in sym (joins.join_absent (listed s) a b (inr (omega arith)))

  -- one class more, under the class p
  module _ (p : ℕ) (under : p < s.count) (room : s.count < max_classes) (low' : depth (listed s) p < max_depth) where
    pub long_grown : length (set s.parents s.count p) ≡ max_classes
    long_grown = simp length-set s.long

    pub grown : take (s.count + 1) (set s.parents s.count p) ≡ listed s ++ p ∷ []
    grown = let l = s.long in take_more_set s.parents s.count p (omega arith)

    pub shape_grown : Shape (take (s.count + 1) (set s.parents s.count p))
    shape_grown =
        let f = size in
        subst Shape (sym grown) (order.tree_shape (growth.tree_push (listed s) tree p (omega arith) (omega arith) low'))

    pub adding_ok : Ok s.count ≡ adding (listed s) p
    adding_ok = growth.adding_ok (listed s) s.count p size under room low'
