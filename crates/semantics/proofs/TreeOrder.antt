-- Going up, the line of a class, and fitting.
use Rattle.std.proofs.Common.{◌≡◌, ℕ, zero, suc, ◌<◌, ◌≤◌, true, false, ◌||◌, eqb, ◌⊎◌, List, [], ◌∷◌, length, Decides, sym, refl, ap, ◌∙◌, subst, inl, inr, arith}
use Rattle.std.proofs.lemmas.Bool.{lt-ltb, le-ltb, and_parts, and_from, and_left, and_right, cond-true, cond-false, cases_Bool, cases_lt, false≢true}
use Rattle.std.proofs.lemmas.Bool.Decides.{same_from_decides, Decides-eqb, Decides-or, Decides-like}
use Rattle.semantics.specs.Tree.{parent, present, Up, here, above, Tree, Shape, line_in, line, among, fits}

pub tree_from : {ps : List ℕ} → Shape ps → Tree ps
tree_from s = record { some = s.0; few = s.1; root = s.2; lower = s.3; shallow = s.4 }

pub tree_shape : {ps : List ℕ} → Tree ps → Shape ps
tree_shape t = (t.some, t.few, t.root, t.lower, t.shallow)

-- what holds on any list
pub line_present : (ps : List ℕ) (a : ℕ) → a < length ps → line ps a ≡ line_in ps a a
unfolding line
line_present ps a h = cond-true _ _ _ (lt-ltb a (length ps) h)

pub line_absent : (ps : List ℕ) (a : ℕ) → length ps ≤ a → line ps a ≡ []
unfolding line
line_absent ps a h = cond-false _ _ _ (le-ltb a (length ps) h)

pub fits_absent : (ps : List ℕ) (a b : ℕ) → length ps ≤ b → fits ps a b ≡ false
unfolding fits
fits_absent ps a b h = and_left _ _ (le-ltb b (length ps) h)

pub absent_fits : (ps : List ℕ) (a b : ℕ) → length ps ≤ a → fits ps a b ≡ false
unfolding fits
absent_fits ps a b h = and_right _ _ (ap (among b) (line_absent ps a h))

pub up_left : {ps : List ℕ} {a b : ℕ} → Up ps a b → a < length ps
up_left (here h) = h
up_left (above h u) = h

pub up_right : {ps : List ℕ} {a b : ℕ} → Up ps a b → b < length ps
up_right (here h) = h
up_right (above h u) = up_right u

pub up_trans : {ps : List ℕ} {a b c : ℕ} → Up ps a b → Up ps b c → Up ps a c
up_trans (here h) v = v
up_trans (above h u) v = above h (up_trans u v)

pub up_at : {ps : List ℕ} {a b : ℕ} → a < length ps → a ≡ b → Up ps a b
up_at {ps} {a} {b} h e = subst (λ (x : ℕ). Up ps a x) e (here h)

pub up_cases : {ps : List ℕ} {a b : ℕ} → Up ps a b → (a ≡ b) ⊎ Up ps (parent ps a) b
up_cases (here h) = inl refl
up_cases (above h u) = inr u

-- a class that is not a itself is found from a's parent
pub up_parent : {ps : List ℕ} {a b : ℕ} → Up ps a b → b < a → Up ps (parent ps a) b
up_parent (here h) l = absurd (omega arith)
up_parent (above h u) l = u

module _ (ps : List ℕ) (t : Tree ps) where
  pub parent_le : (a n : ℕ) → a < length ps → a ≤ suc n → parent ps a ≤ n
  parent_le zero n h k = let r : parent ps 0 ≡ 0 = t.root in omega arith
  parent_le (suc a) n h k = let l : parent ps (suc a) < suc a = t.lower (suc a) (omega arith) h in omega arith

  pub parent_lt : (a : ℕ) → a < length ps → parent ps a < length ps
  parent_lt a h = let l : parent ps a ≤ a = parent_le a a h (omega arith) in omega arith

  pub up_le : {a b : ℕ} → Up ps a b → b ≤ a
  up_le {a} (here h) = omega arith
  up_le {a} {b} (above h u) = let l : parent ps a ≤ a = parent_le a a h (omega arith) in let k : b ≤ parent ps a = up_le u in omega arith

  pub up_antisym : {a b : ℕ} → Up ps a b → Up ps b a → a ≡ b
  up_antisym {a} {b} u v = let l : b ≤ a = up_le u in let k : a ≤ b = up_le v in omega arith

  up_root_in : (n a : ℕ) → a < length ps → a ≤ n → Up ps a 0
  up_root_in zero a h l = up_at h (omega arith)
  up_root_in (suc n) a h l = above h (up_root_in n (parent ps a) (parent_lt a h) (parent_le a n h l))

  pub up_root : (a : ℕ) → a < length ps → Up ps a 0
  up_root a h = up_root_in a a h (omega arith)

  -- the classes that a class fits stand in one line
  pub up_line : {a j c : ℕ} → Up ps a j → Up ps a c → c ≤ j → Up ps j c
  up_line (here h) v l = v
  up_line {a} {j} {c} (above h u) v l =
      elim (up_cases v) [
        | inl e ↦ (let m : j ≤ parent ps a = up_le u in let k : parent ps a ≤ a = parent_le a a h (omega arith) in
            up_at (up_right u) (omega arith))
        | inr w ↦ up_line u w l
      ]

  -- the line by its first step
  line_in_enough : (n m a : ℕ) → a < length ps → a ≤ n → a ≤ m → line_in ps n a ≡ line_in ps m a
  unfolding line_in
  line_in_enough n m zero h l k = refl
  line_in_enough zero m (suc a) h l k = absurd (omega arith)
  line_in_enough (suc n) zero (suc a) h l k = absurd (omega arith)
  line_in_enough (suc n) (suc m) (suc a) h l k =
      ap (λ (xs : List ℕ). suc a ∷ xs)
      (line_in_enough n m (parent ps (suc a)) (parent_lt (suc a) h) (parent_le (suc a) n h l) (parent_le (suc a) m h k))

  -- where the bound is high enough, it does not matter
  pub line_in_lem : (n a : ℕ) → a < length ps → a ≤ n → line_in ps n a ≡ line ps a
  line_in_lem n a h l = line_in_enough n a a h l (omega arith) ∙ sym (line_present ps a h)

  pub line_root : line ps 0 ≡ 0 ∷ []
  unfolding line_in
  line_root = line_present ps 0 t.some

  pub line_step : (a : ℕ) → 0 < a → a < length ps → line ps a ≡ a ∷ line ps (parent ps a)
  unfolding line_in
  line_step zero z h = absurd (omega arith)
  line_step (suc a) z h =
      line_present ps (suc a) h
      ∙ ap (λ (xs : List ℕ). suc a ∷ xs) (line_in_lem a (parent ps (suc a)) (parent_lt (suc a) h) (parent_le (suc a) a h (omega arith)))

  -- the line holds what is found by going up
  line_decides : (n a b : ℕ) → a < length ps → a ≤ n → Decides (among b (line ps a)) (Up ps a b)
  line_decides n zero b h l =
      subst (λ (xs : List ℕ). Decides (among b xs) (Up ps 0 b)) (sym line_root)
      (Decides-like (eqb 0 b || false) (λ s. elim s [ inl e ↦ up_at h e | inr e ↦ absurd e ])
      (λ u. inl (let k : b ≤ 0 = up_le u in omega arith))
      (Decides-or (eqb 0 b) false (Decides-eqb 0 b) (false≢true, λ e. absurd e)))
  line_decides zero (suc a) b h l = absurd (omega arith)
  line_decides (suc n) (suc a) b h l =
      subst (λ (xs : List ℕ). Decides (among b xs) (Up ps (suc a) b)) (sym (line_step (suc a) (omega arith) h))
      (Decides-like (eqb (suc a) b || among b (line ps (parent ps (suc a))))
      (λ s. elim s [ inl e ↦ up_at h e | inr u ↦ above h u ]) up_cases
      (Decides-or (eqb (suc a) b) (among b (line ps (parent ps (suc a)))) (Decides-eqb (suc a) b)
      (line_decides n (parent ps (suc a)) b (parent_lt (suc a) h) (parent_le (suc a) n h l))))

  pub among_up : {a b : ℕ} → a < length ps → among b (line ps a) ≡ true → Up ps a b
  among_up {a} {b} h = (line_decides a a b h (omega arith)).0

  -- the test tells the relation
  fits_parts : (a b : ℕ) → fits ps a b ≡ true → (present ps b ≡ true) × (among b (line ps a) ≡ true)
  unfolding fits
  fits_parts a b e = and_parts _ _ e

  pub fits_up : {a b : ℕ} → fits ps a b ≡ true → Up ps a b
  fits_up {a} {b} e =
      elim (cases_lt a (length ps)) [
        | inl h ↦ among_up h (fits_parts a b e).1
        | inr h ↦ absurd (false≢true (sym (absent_fits ps a b h) ∙ e))
      ]

  pub up_fits : {a b : ℕ} → Up ps a b → fits ps a b ≡ true
  unfolding fits
  up_fits {a} {b} u = and_from _ _ (lt-ltb _ _ (up_right u)) ((line_decides a a b (up_left u) (omega arith)).1 u)

  pub fits_decides : (a b : ℕ) → Decides (fits ps a b) (Up ps a b)
  fits_decides a b = (fits_up, up_fits)

  -- the steps of a climb: the number falls, and what lies below is out of reach
  pub fits_same : (a : ℕ) → a < length ps → fits ps a a ≡ true
  fits_same a h = up_fits (here h)

  pub fits_climb : (a b : ℕ) → a < length ps → b < a → fits ps a b ≡ fits ps (parent ps a) b
  fits_climb a b h l =
      same_from_decides (fits ps a b) (fits ps (parent ps a) b) (fits_decides a b)
      (Decides-like (fits ps (parent ps a) b) (above h) (λ u. up_parent u l) (fits_decides (parent ps a) b))

  pub fits_below : (a b : ℕ) → a < b → fits ps a b ≡ false
  fits_below a b l =
      elim (cases_Bool (fits ps a b)) [ inl e ↦ absurd (let k : b ≤ a = up_le (fits_up e) in omega arith) | inr e ↦ e ]

  pub fits_comparable : {a b c : ℕ} → Up ps a b → Up ps a c → (fits ps b c ≡ true) ⊎ (fits ps c b ≡ true)
  fits_comparable {a} {b} {c} u v =
      elim (cases_lt b c) [ inl l ↦ inr (up_fits (up_line v u (omega arith))) | inr l ↦ inl (up_fits (up_line u v l)) ]
