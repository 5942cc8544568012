-- Classes that come later.
use Rattle.std.proofs.Common.{◌≡◌, ℕ, zero, suc, ◌-◌, ◌<◌, ◌≤◌, Bool, false, ◌&&◌, ◌⊎◌, List, [], ◌∷◌, ◌++◌, length, Ok, Err, Result, sym, refl, ap, ◌∙◌, inl, inr, arith, length-append}
use Rattle.std.proofs.lemmas.List.{length_push, get_or_push, get_or_append_left}
use Rattle.std.proofs.lemmas.Bool.{lt-ltb, le-ltb, and_right, cond-true, cond-false, cases_lt, cases_Bool}
use Rattle.semantics.specs.declared.refusal.Capacity.TheVariants.{Classes, Depth}
use Rattle.semantics.specs.declared.refusal.Refusal.{Refusal}
use Rattle.semantics.specs.declared.refusal.Refusal.TheVariants.{ClassAbsent, Full}
use Rattle.semantics.specs.Tree.{max_classes, max_depth, parent, present, Tree, line_in, line, among, first, fits, join, depth, under, numbered, adding, blank}
use Rattle.semantics.specs.TreeLaws.{Stays}
use Rattle.semantics.proofs.TreeOrder as order
use Rattle.semantics.proofs.TreeJoin as joins

module _ (ps : List ℕ) (t : Tree ps) (xs : List ℕ) where
  pub parent_old : (a : ℕ) → a < length ps → parent (ps ++ xs) a ≡ parent ps a
  parent_old a h = get_or_append_left ps xs 0 a h

  line_in_old : (n a : ℕ) → a < length ps → line_in (ps ++ xs) n a ≡ line_in ps n a
  unfolding line_in
  line_in_old n zero h = refl
  line_in_old zero (suc a) h = refl
  line_in_old (suc n) (suc a) h =
      ap (λ (l : List ℕ). suc a ∷ l)
      (ap (line_in (ps ++ xs) n) (parent_old (suc a) h) ∙ line_in_old n (parent ps (suc a)) (order.parent_lt ps t (suc a) h))

  pub line_old : (a : ℕ) → a < length ps → line (ps ++ xs) a ≡ line ps a
  line_old a h =
      let e = length-append ps xs in
      order.line_present (ps ++ xs) a (omega arith) ∙ line_in_old a a h ∙ sym (order.line_present ps a h)

  pub depth_old : (a : ℕ) → a < length ps → depth (ps ++ xs) a ≡ depth ps a
  unfolding depth
  depth_old a h = ap (λ (l : List ℕ). length l - 1) (line_old a h)

  pub fits_old : (a b : ℕ) → a < length ps → fits (ps ++ xs) a b ≡ fits ps a b
  unfolding fits
  fits_old a b h =
      let e = length-append ps xs in
      ap (λ (l : List ℕ). present (ps ++ xs) b && among b l) (line_old a h)
      ∙ elim (cases_lt b (length ps)) [
        | inl k ↦ ap (λ (s : Bool). s && among b (line ps a)) (lt-ltb b (length (ps ++ xs)) (omega arith) ∙ sym (lt-ltb b (length ps) k))
        | inr k ↦ (let n = none b k in and_right _ _ n ∙ sym (and_right _ _ n))
      ]
    where
      none : (b : ℕ) → length ps ≤ b → among b (line ps a) ≡ false
      none b k =
          elim (cases_Bool (among b (line ps a))) [
            | inl e ↦ absurd (let l : b < length ps = order.up_right (order.among_up ps t h e) in omega arith)
            | inr e ↦ e
          ]

  pub join_old : (a b : ℕ) → a < length ps → b < length ps → join (ps ++ xs) a b ≡ join ps a b
  unfolding join
  join_old a b h k =
      ap (first (fits (ps ++ xs) b)) (line_old a h)
      ∙ joins.first_same (fits (ps ++ xs) b) (fits ps b) (line ps a) (λ x. fits_old b x k)

  pub stays : (a : ℕ) → a < length ps → Stays ps (ps ++ xs) a
  stays a h = record { fits_same = λ b. fits_old a b h; join_same = λ b k. join_old a b h k; depth_same = depth_old a h }

-- one class more, under the class p
module _ (ps : List ℕ) (t : Tree ps) (p : ℕ) (in' : p < length ps) where
  pub parent_new : parent (ps ++ p ∷ []) (length ps) ≡ p
  parent_new = get_or_push ps p 0 (length ps) refl

  line_new_at : (n : ℕ) → length ps ≡ n → line (ps ++ p ∷ []) n ≡ n ∷ line ps p
  unfolding line_in
  line_new_at zero e = absurd (let s : 0 < length ps = t.some in omega arith)
  line_new_at (suc n) e =
      let f = length_push ps p in
      order.line_present (ps ++ p ∷ []) (suc n) (omega arith)
      ∙ ap (λ (l : List ℕ). suc n ∷ l)
      (ap (line_in (ps ++ p ∷ []) n) (ap (parent (ps ++ p ∷ [])) (sym e) ∙ parent_new)
      ∙ line_in_old ps t (p ∷ []) n p in' ∙ order.line_in_lem ps t n p in' (omega arith))

  pub depth_new : depth (ps ++ p ∷ []) (length ps) ≡ suc (depth ps p)
  unfolding depth
  depth_new =
      let e = ap length (line_new_at (length ps) refl) in
      let s = joins.line_some ps t p in' in
      omega arith

  pub tree_push : length ps < max_classes → depth ps p < max_depth → Tree (ps ++ p ∷ [])
  tree_push room low = record {
    some = let e = length_push ps p in omega arith;
    few = let e = length_push ps p in omega arith;
    root = parent_old ps t (p ∷ []) 0 t.some ∙ t.root;
    lower = λ k z h. elim (split k h) [
      | inl l ↦ (let e = parent_old ps t (p ∷ []) k l in let m : parent ps k < k = t.lower k z l in omega arith)
      | inr e ↦ (let m = ap (parent (ps ++ p ∷ [])) e ∙ parent_new in omega arith)
    ];
    shallow = λ k h. elim (split k h) [
      | inl l ↦ (let e = depth_old ps t (p ∷ []) k l in let m : depth ps k ≤ max_depth = t.shallow k l in omega arith)
      | inr e ↦ (let m = ap (depth (ps ++ p ∷ [])) e ∙ depth_new in omega arith)
    ];
  }
    where
      split : (k : ℕ) → k < length (ps ++ p ∷ []) → (k < length ps) ⊎ (k ≡ length ps)
      split k h =
          let e = length_push ps p in
          elim (cases_lt k (length ps)) [ inl l ↦ inl l | inr l ↦ inr (omega arith) ]

-- which answer adding gives, where there are n classes
module _ (ps : List ℕ) (n p : ℕ) (size : length ps ≡ n) where
  pub adding_refused : (e : Refusal) → Err e ≡ under n p → Err e ≡ adding ps p
  adding_refused e q = ap (numbered ps) (q ∙ ap (λ (k : ℕ). under k p) (sym size))

  under_ok : p < n → n < max_classes → under (length ps) p ≡ Ok p
  under_ok h r = ap (λ (k : ℕ). under k p) size ∙ cond-true _ _ _ (lt-ltb p n h) ∙ cond-true _ _ _ (lt-ltb n max_classes r)

  pub adding_absent : n ≤ p → Err (ClassAbsent 0) ≡ adding ps p
  adding_absent h = adding_refused (ClassAbsent 0) (sym (cond-false _ _ _ (le-ltb p n h)))

  pub adding_full : p < n → max_classes ≤ n → Err (Full Classes) ≡ adding ps p
  adding_full h r = adding_refused (Full Classes) (sym (cond-true _ _ _ (lt-ltb p n h) ∙ cond-false _ _ _ (le-ltb n max_classes r)))

  pub adding_deep : p < n → n < max_classes → max_depth ≤ depth ps p → Err (Full Depth) ≡ adding ps p
  adding_deep h r d = sym (ap (numbered ps) (under_ok h r) ∙ cond-false _ _ _ (le-ltb (depth ps p) max_depth d))

  pub adding_ok : p < n → n < max_classes → depth ps p < max_depth → Ok n ≡ adding ps p
  adding_ok h r d = sym (ap (numbered ps) (under_ok h r) ∙ cond-true _ _ _ (lt-ltb (depth ps p) max_depth d) ∙ ap Ok size)

-- the four ways of adding, as the definition takes them
pub data Way (ps : List ℕ) (p : ℕ) : Type 0 where
  absent : length ps ≤ p → adding ps p ≡ Err (ClassAbsent 0) → Way ps p
  full : p < length ps → max_classes ≤ length ps → adding ps p ≡ Err (Full Classes) → Way ps p
  deep : p < length ps → length ps < max_classes → max_depth ≤ depth ps p → adding ps p ≡ Err (Full Depth) → Way ps p
  ok : p < length ps → length ps < max_classes → depth ps p < max_depth → adding ps p ≡ Ok (length ps) → Way ps p

pub way : (ps : List ℕ) (p : ℕ) → Way ps p
way ps p =
    elim (cases_lt p (length ps)) [
      | inl h ↦ (elim (cases_lt (length ps) max_classes) [
        | inl r ↦ (elim (cases_lt (depth ps p) max_depth) [
          | inl d ↦ ok h r d (sym (adding_ok ps (length ps) p refl h r d))
          | inr d ↦ deep h r d (sym (adding_deep ps (length ps) p refl h r d))
        ])
        | inr r ↦ full h r (sym (adding_full ps (length ps) p refl h r))
      ])
      | inr h ↦ absent h (sym (adding_absent ps (length ps) p refl h))
    ]

-- what is known where adding answers a number
pub record Added (ps : List ℕ) (p n : ℕ) : Type 0 where
  pub under : p < length ps
  pub room : length ps < max_classes
  pub low : depth ps p < max_depth
  pub new : length ps ≡ n

never : {X : Type 0} (e : Refusal) (n : ℕ) → ◌≡◌ {A = Result ℕ Refusal} (Err e) (Ok n) → X
never e n q = let z : ◌≡◌ {A = ℕ} 0 1 = cc in absurd (omega arith)

pub added : (ps : List ℕ) (p n : ℕ) → adding ps p ≡ Ok n → Added ps p n
added ps p n q = go (way ps p)
  where
    go : Way ps p → Added ps p n
    go (absent h e) = never (ClassAbsent 0) n (sym e ∙ q)
    go (full h r e) = never (Full Classes) n (sym e ∙ q)
    go (deep h r d e) = never (Full Depth) n (sym e ∙ q)
    go (ok h r d e) = record { under = h; room = r; low = d; new = cc }

-- the three classes of a blank card
pub blank_tree : Tree blank
unfolding depth line line_in
blank_tree = record {
  some = omega arith;
  few = omega arith;
  root = refl;
  lower = lows;
  shallow = deeps;
}
  where
    lows : (k : ℕ) → 0 < k → k < 3 → parent blank k < k
    lows zero z h = z
    lows (suc zero) z h = omega arith
    lows (suc (suc zero)) z h = omega arith
    lows (suc (suc (suc k))) z h = absurd (omega arith)

    deeps : (k : ℕ) → k < 3 → depth blank k ≤ max_depth
    deeps zero h = omega arith
    deeps (suc zero) h = omega arith
    deeps (suc (suc zero)) h = omega arith
    deeps (suc (suc (suc k))) h = absurd (omega arith)
