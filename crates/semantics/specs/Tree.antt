-- The tree of classes. Its meaning is the list of parents: at the place k stands the parent of class k, and class 0 has itself.
use Rattle.std.specs.Prelude.{◌≡◌, ℕ, zero, suc, ◌-◌, ◌<◌, ◌≤◌, Bool, false, cond, ◌&&◌, ◌||◌, List, [], ◌∷◌, ◌++◌, length, Ok, Err, Result, ◌==◌, nat_lt, slice_index}
use Rattle.semantics.specs.declared.refusal.Capacity.TheVariants.{Classes, Depth}
use Rattle.semantics.specs.declared.refusal.Refusal.{Refusal}
use Rattle.semantics.specs.declared.refusal.Refusal.TheVariants.{ClassAbsent, Full}

-- how many classes there are at most, and how many parents up class 0 is at most
abbrev pub max_classes : ℕ
max_classes = 64

abbrev pub max_depth : ℕ
max_depth = 7

-- CardObject, Bool and Int, with class 0 as the parent of the other two
abbrev pub blank : List ℕ
blank = 0 ∷ 0 ∷ 0 ∷ []

abbrev pub present : List ℕ → ℕ → Bool
present ps a = nat_lt a (length ps)

abbrev pub parent : List ℕ → ℕ → ℕ
parent ps a = slice_index ps a

-- b is a, or is found by going up from a
pub data Up (ps : List ℕ) : ℕ → ℕ → Type 0 where
  here : {a : ℕ} → a < length ps → Up ps a a
  above : {a b : ℕ} → a < length ps → Up ps (parent ps a) b → Up ps a b

-- the class a, its parent, and so on up to class 0, in at most n steps
unfoldable pub line_in : List ℕ → ℕ → ℕ → List ℕ
line_in ps n zero = 0 ∷ []
line_in ps zero (suc a) = suc a ∷ []
line_in ps (suc n) (suc a) = suc a ∷ line_in ps n (parent ps (suc a))

-- the whole line, since parents have lower numbers; an absent number has none
unfoldable pub line : List ℕ → ℕ → List ℕ
line ps a = cond (present ps a) (line_in ps a a) []

abbrev pub among : ℕ → List ℕ → Bool
among b [] = false
among b (x ∷ xs) = x == b || among b xs

-- class a fits b when b is on a's line
unfoldable pub fits : List ℕ → ℕ → ℕ → Bool
fits ps a b = present ps b && among b (line ps a)

-- the first number of a list that passes a test, or 0
abbrev pub first : (ℕ → Bool) → List ℕ → ℕ
first f [] = 0
first f (x ∷ xs) = cond (f x) x (first f xs)

-- the first class on a's line that b fits
unfoldable pub join : List ℕ → ℕ → ℕ → ℕ
join ps a b = first (fits ps b) (line ps a)

-- how many parents up class 0 is
unfoldable pub depth : List ℕ → ℕ → ℕ
depth ps a = length (line ps a) - 1

-- j is the deepest class that both a and b fit
pub record Deepest (ps : List ℕ) (a b j : ℕ) : Type 0 where
  pub left : Up ps a j
  pub right : Up ps b j
  pub deepest : (c : ℕ) → Up ps a c → Up ps b c → depth ps c ≤ depth ps j

-- the lists that are trees of classes
pub record Tree (ps : List ℕ) : Type 0 where
  pub some : 0 < length ps
  pub few : length ps ≤ max_classes
  pub root : parent ps 0 ≡ 0
  pub lower : (k : ℕ) → 0 < k → k < length ps → parent ps k < k
  pub shallow : (k : ℕ) → k < length ps → depth ps k ≤ max_depth

-- the same as a product, for a ghost field, which takes no declared record
abbrev pub Shape : List ℕ → Type 0
Shape ps =
    (0 < length ps) × (length ps ≤ max_classes) × (parent ps 0 ≡ 0)
    × ((k : ℕ) → 0 < k → k < length ps → parent ps k < k) × ((k : ℕ) → k < length ps → depth ps k ≤ max_depth)

-- the parent of a new class, where there are n: 8 if it is absent, else 9 at 64 classes
abbrev pub under : ℕ → ℕ → Result ℕ Refusal
under n p = cond (nat_lt p n) (cond (nat_lt n max_classes) (Ok p) (Err (Full Classes))) (Err (ClassAbsent 0))

-- the number of a new class under that parent, or 9 past the depth
abbrev pub numbered : List ℕ → Result ℕ Refusal → Result ℕ Refusal
numbered ps (Ok p) = cond (nat_lt (depth ps p) max_depth) (Ok (length ps)) (Err (Full Depth))
numbered ps (Err e) = Err e

-- what adding a class under p answers
abbrev pub adding : List ℕ → ℕ → Result ℕ Refusal
adding ps p = numbered ps (under (length ps) p)

-- the list after that answer: one parent more, or as it was
abbrev pub after : Result ℕ Refusal → List ℕ → ℕ → List ℕ
after (Ok n) ps p = ps ++ p ∷ []
after (Err e) ps p = ps
