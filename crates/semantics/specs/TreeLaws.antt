-- What holds of the tree of classes.
use Rattle.std.specs.Prelude.{◌≡◌, ℕ, ◌<◌, ◌≤◌, true, false, ◌⊎◌, List, [], ◌∷◌, ◌++◌, length, Ok, Err, Result}
use Rattle.semantics.specs.declared.refusal.Capacity.TheVariants.{Depth}
use Rattle.semantics.specs.declared.refusal.Refusal.{Refusal}
use Rattle.semantics.specs.declared.refusal.Refusal.TheVariants.{ClassAbsent, Full}
use Rattle.semantics.specs.Refusals.{told}
use Rattle.semantics.specs.Tree.{max_classes, max_depth, Up, Deepest, Tree, blank, fits, join, depth, adding}

-- fitting is going up: an order on the present classes, with class 0 at the top
pub record Order (ps : List ℕ) : Type 0 where
  pub goes_up : (a b : ℕ) → fits ps a b ≡ true → Up ps a b
  pub going_up : (a b : ℕ) → Up ps a b → fits ps a b ≡ true
  pub itself : (a : ℕ) → a < length ps → fits ps a a ≡ true
  pub further : (a b c : ℕ) → fits ps a b ≡ true → fits ps b c ≡ true → fits ps a c ≡ true
  pub one_way : (a b : ℕ) → fits ps a b ≡ true → fits ps b a ≡ true → a ≡ b
  pub top : (a : ℕ) → a < length ps → fits ps a 0 ≡ true
  pub comparable : (a b c : ℕ) → fits ps a b ≡ true → fits ps a c ≡ true → (fits ps b c ≡ true) ⊎ (fits ps c b ≡ true)

abbrev pub FittingIsAnOrder : Type 0
FittingIsAnOrder = (ps : List ℕ) → Tree ps → Order ps

-- the join is an upper bound, the least one and the deepest, and the only one that is so
pub record Joins (ps : List ℕ) (a b : ℕ) : Type 0 where
  pub left : fits ps a (join ps a b) ≡ true
  pub right : fits ps b (join ps a b) ≡ true
  pub least : (c : ℕ) → fits ps a c ≡ true → fits ps b c ≡ true → fits ps (join ps a b) c ≡ true
  pub deepest : Deepest ps a b (join ps a b)
  pub only : (j : ℕ) → Deepest ps a b j → j ≡ join ps a b

abbrev pub JoinIsDeepest : Type 0
JoinIsDeepest = (ps : List ℕ) → Tree ps → (a b : ℕ) → a < length ps → b < length ps → Joins ps a b

-- on any list an absent number fits nothing, nothing fits it, and a join with it is 0
pub record Absent (ps : List ℕ) (a : ℕ) : Type 0 where
  pub fits_nothing : (b : ℕ) → fits ps a b ≡ false
  pub fitted_by_none : (b : ℕ) → fits ps b a ≡ false
  pub joins_left : (b : ℕ) → join ps a b ≡ 0
  pub joins_right : (b : ℕ) → join ps b a ≡ 0

abbrev pub AbsentFitsNothing : Type 0
AbsentFitsNothing = (ps : List ℕ) (a : ℕ) → length ps ≤ a → Absent ps a

-- whatever classes come later, the old ones fit, join and lie as before
pub record Stays (ps qs : List ℕ) (a : ℕ) : Type 0 where
  pub fits_same : (b : ℕ) → fits qs a b ≡ fits ps a b
  pub join_same : (b : ℕ) → b < length ps → join qs a b ≡ join ps a b
  pub depth_same : depth qs a ≡ depth ps a

abbrev pub OldClassesStay : Type 0
OldClassesStay = (ps xs : List ℕ) → Tree ps → (a : ℕ) → a < length ps → Stays ps (ps ++ xs) a

-- a class that is added leaves a tree: lower-numbered parents and bounded depth
abbrev pub AddingKeepsTrees : Type 0
AddingKeepsTrees = (ps : List ℕ) (p n : ℕ) → Tree ps → adding ps p ≡ Ok n → Tree (ps ++ p ∷ [])

-- the number that a refusal tells; 0 where nothing is refused
abbrev pub refusal_number : Result ℕ Refusal → ℕ
refusal_number (Ok n) = 0
refusal_number (Err e) = (told e).number

abbrev pub Exactly : Type 0 → Type 0 → Type 0
Exactly P Q = (P → Q) × (Q → P)

-- adding refuses with 8 exactly for an absent parent, else with 9 exactly at 64 classes or past the depth; otherwise it answers the next number
pub record Refuses (ps : List ℕ) (p : ℕ) : Type 0 where
  pub absent : Exactly (refusal_number (adding ps p) ≡ 8) (length ps ≤ p)
  pub full : Exactly (refusal_number (adding ps p) ≡ 9) ((p < length ps) × ((max_classes ≤ length ps) ⊎ (max_depth ≤ depth ps p)))
  pub accepts : Exactly (adding ps p ≡ Ok (length ps)) ((p < length ps) × (length ps < max_classes) × (depth ps p < max_depth))

abbrev pub AddingRefuses : Type 0
AddingRefuses = (ps : List ℕ) (p : ℕ) → Refuses ps p

-- on a blank card Int fits CardObject and not the other way round, and Bool and Int join there
abbrev pub WorkedClasses : Type 0
WorkedClasses = Tree blank × (fits blank 2 0 ≡ true) × (fits blank 0 2 ≡ false) × (join blank 1 2 ≡ 0)

abbrev pub worked : List ℕ
worked = 0 ∷ 0 ∷ 0 ∷ 2 ∷ 3 ∷ 2 ∷ []

-- with two classes below Int on one line, and a third beside them; and a line of seven parents below class 0
abbrev pub WorkedTree : Type 0
WorkedTree =
    (fits worked 4 2 ≡ true) × (fits worked 4 5 ≡ false)
    × (fits worked 6 6 ≡ false)
    × (join worked 4 5 ≡ 2) × (join worked 4 1 ≡ 0) × (join worked 4 3 ≡ 3)
    × (adding worked 6 ≡ Err (ClassAbsent 0)) × (adding worked 4 ≡ Ok 6)
    × (adding (worked ++ 4 ∷ 6 ∷ 7 ∷ 8 ∷ []) 9 ≡ Err (Full Depth))
