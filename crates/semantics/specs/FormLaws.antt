-- When a method is well formed, by its labels, points and operands, and that the form rules say just this.
use Rattle.std.specs.Prelude.{◌≡◌, ℕ, ◌+◌, ◌<◌, List, length, Ok, Err}
use Rattle.semantics.specs.declared.refusal.Refusal.{Refusal}
use Rattle.semantics.specs.declared.refusal.Refusal.TheVariants.{LabelPoint, Absent, OpenEnd}
use Rattle.semantics.specs.Form.{Named, local, temporary, target, nothing, Scope, scope_of, operands, form_of}
use Rattle.semantics.specs.Lists.{At, Throughout, First}
use Rattle.semantics.specs.Methods.{Op, return, jump, jump_if, jump_list, invoke, LabelDef, MethodDef}

-- the scope has what is named
abbrev pub Present : Scope → Named → Type 0
Present s (local n) = n < s.locals
Present s (temporary n) = n < s.temporaries
Present s (target n) = n < s.labels
Present s nothing = Unit {0}

-- a return or a jump
abbrev pub Leaves : Op → Type 0
Leaves (return a) = Unit {0}
Leaves (jump n) = Unit {0}
Leaves (jump_if a n) = ⊥
Leaves (jump_list a ns) = ⊥
Leaves (invoke d a m bs) = ⊥

-- one of the labels marks the point
abbrev pub Marked : List LabelDef → ℕ → Type 0
Marked ls p = (i : ℕ) × (l : LabelDef) × At ls i l × (l.point ≡ p)

module _ (m : MethodDef) where
  -- label i marks a point of the method
  abbrev pub Inside : ℕ → LabelDef → Type 0
  Inside i l = l.point < length m.code

  -- label i marks a point above those of the labels before it
  abbrev pub Rising : ℕ → LabelDef → Type 0
  Rising i l = (j : ℕ) (k : LabelDef) → At m.labels j k → j < i → k.point < l.point

  -- the method has x, which operand k names
  abbrev pub Has : ℕ → Named → Type 0
  Has k x = Present (scope_of m) x

  -- the method has all that the operation at p names
  abbrev pub HasAll : ℕ → Op → Type 0
  HasAll p o = Throughout Has (operands o)

  -- if p is the last point, its operation is a return or a jump
  abbrev pub Last : ℕ → Op → Type 0
  Last p o = p + 1 ≡ length m.code → Leaves o

  -- if p is not the last point and its operation is a return or a jump, a label marks the point behind it
  abbrev pub Behind : ℕ → Op → Type 0
  Behind p o = p + 1 < length m.code → Leaves o → Marked m.labels (p + 1)

  -- both rules of label i
  abbrev pub Fits : ℕ → LabelDef → Type 0
  Fits i l = Rising i l × Inside i l

  -- both rules of how the code goes on behind p
  abbrev pub Closed : ℕ → Op → Type 0
  Closed p o = Last p o × Behind p o

-- the rules, throughout the method
pub record WellFormed (m : MethodDef) : Type 0 where
  pub inside : Throughout (Inside m) m.labels
  pub rising : Throughout (Rising m) m.labels
  pub named : Throughout (HasAll m) m.code
  pub last : Throughout (Last m) m.code
  pub behind : Throughout (Behind m) m.code

-- the form rules find no fault in just those methods
abbrev pub FormExact : Type 0
FormExact = (m : MethodDef) → (form_of m ≡ Ok tt → WellFormed m) × (WellFormed m → form_of m ≡ Ok tt)

-- the first fault: of a label, else of an operand, else of a point whose end is open or cut off; each the lowest of its kind
pub data FirstFault (m : MethodDef) : Refusal → Type 0 where
  label : {i : ℕ} → First (Fits m) m.labels i → FirstFault m (LabelPoint i)
  absent : {p k : ℕ} → Throughout (Fits m) m.labels → (f : First (HasAll m) m.code p) → First (Has m) (operands f.item) k → FirstFault m (Absent p k)
  end : {p : ℕ} → Throughout (Fits m) m.labels → Throughout (HasAll m) m.code → First (Closed m) m.code p → FirstFault m (OpenEnd p)

-- the form rules tell just the first fault
abbrev pub FormFirst : Type 0
FormFirst = (m : MethodDef) (e : Refusal) → (form_of m ≡ Err e → FirstFault m e) × (FirstFault m e → form_of m ≡ Err e)
