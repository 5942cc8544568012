-- When the label table of a method passes, in words: which row each point has, and what its operation asks of that row.
use Rattle.std.specs.Prelude.{◌≡◌, ℕ, ◌+◌, false, List, map, slice_index, slice_set}
use Rattle.semantics.specs.declared.operation.Destination.{Destination}
use Rattle.semantics.specs.declared.operation.Destination.TheVariants.{Local, Temporary}
use Rattle.semantics.specs.Check.{zeros}
use Rattle.semantics.specs.Entries.{EntryDef, Found, Nearest}
use Rattle.semantics.specs.Form.{leaves}
use Rattle.semantics.specs.Lists.{At}
use Rattle.semantics.specs.Methods.{Each, Op, return, jump, jump_if, jump_list, invoke, LabelDef, MethodDef}
use Rattle.semantics.specs.Rows.{FitsEach}
use Rattle.semantics.specs.Tests.{bool_class, int_class, operand_class, label_row, locals_of, named_labels}
use Rattle.semantics.specs.Tree.{Up}

-- each class of a row is, or lies below, the class at its place of another
abbrev pub RowFits : List ℕ → List ℕ → List ℕ → Type 0
RowFits ps ts us = FitsEach ps (λ c. c) (λ c. c) ts us

abbrev pub LabelAt : MethodDef → ℕ → LabelDef → Type 0
LabelAt m p l = (i : ℕ) × At m.labels i l × (l.point ≡ p)

abbrev pub NoLabelAt : MethodDef → ℕ → Type 0
NoLabelAt m p = (l : LabelDef) → LabelAt m p l → ⊥

-- the method that an invocation calls takes its arguments, and its result goes into d
abbrev pub Takes : List ℕ → MethodDef → List ℕ → Destination → Found → List ℕ → Type 0
Takes ps m ts (Local n) f cs = RowFits ps cs f.entry.arguments × Up ps f.entry.result (slice_index (locals_of m) n)
Takes ps m ts (Temporary n) f cs = RowFits ps cs f.entry.arguments

-- what an operation asks of the row ts at its point
abbrev pub Rule : List ℕ → List EntryDef → MethodDef → List ℕ → Op → Type 0
Rule ps es m ts (return a) = Up ps (operand_class (locals_of m) ts a) m.result
Rule ps es m ts (jump n) = RowFits ps ts (label_row m.labels n)
Rule ps es m ts (jump_if a n) = Up ps (operand_class (locals_of m) ts a) bool_class × RowFits ps ts (label_row m.labels n)
Rule ps es m ts (jump_list a ns) = Up ps (operand_class (locals_of m) ts a) int_class × Each (λ n. RowFits ps ts (label_row m.labels n)) ns
Rule ps es m ts (invoke d a n bs) =
    (f : Found) × Nearest ps es (operand_class (locals_of m) ts a) n f × Takes ps m ts d f (map (operand_class (locals_of m) ts) bs)

-- the row behind an operation: a temporary that takes a result has its class, and the others stay
abbrev pub Behind : List ℕ → List EntryDef → MethodDef → List ℕ → Op → List ℕ → Type 0
Behind ps es m ts (return a) us = us ≡ ts
Behind ps es m ts (jump n) us = us ≡ ts
Behind ps es m ts (jump_if a n) us = us ≡ ts
Behind ps es m ts (jump_list a ns) us = us ≡ ts
Behind ps es m ts (invoke (Local k) a n bs) us = us ≡ ts
Behind ps es m ts (invoke (Temporary k) a n bs) us = (f : Found) × Nearest ps es (operand_class (locals_of m) ts a) n f × (us ≡ slice_set ts k f.entry.result)

-- the row of a point: the label's, or what the point before leaves, or zeros at first; nothing is left behind a return or a jump
pub data RowAt (ps : List ℕ) (es : List EntryDef) (m : MethodDef) : ℕ → List ℕ → Type 0 where
  start : NoLabelAt m 0 → RowAt ps es m 0 (zeros m.temporaries)
  label : {p : ℕ} {l : LabelDef} → LabelAt m p l → RowAt ps es m p l.row
  next : {p : ℕ} {ts us : List ℕ} {o : Op} → RowAt ps es m p ts → At m.code p o → leaves o ≡ false → NoLabelAt m (p + 1) → Behind ps es m ts o us → RowAt ps es m (p + 1) us

-- a row that comes to a point: zeros at first, or what the point before leaves
pub data Arrives (ps : List ℕ) (es : List EntryDef) (m : MethodDef) : ℕ → List ℕ → Type 0 where
  first : Arrives ps es m 0 (zeros m.temporaries)
  behind : {p : ℕ} {ts us : List ℕ} {o : Op} → RowAt ps es m p ts → At m.code p o → leaves o ≡ false → Behind ps es m ts o us → Arrives ps es m (p + 1) us

-- what comes to a point fits its label's row
abbrev pub Falls : List ℕ → List EntryDef → MethodDef → ℕ → Type 0
Falls ps es m p = (ts : List ℕ) (l : LabelDef) → Arrives ps es m p ts → LabelAt m p l → RowFits ps ts l.row

-- the label table passes
pub record Passes (ps : List ℕ) (es : List EntryDef) (m : MethodDef) : Type 0 where
  pub enters : (l : LabelDef) → LabelAt m 0 l → RowFits ps (zeros m.temporaries) l.row
  pub rules : (p : ℕ) (ts : List ℕ) (o : Op) → RowAt ps es m p ts → At m.code p o → Rule ps es m ts o
  pub falls : (p : ℕ) (ts us : List ℕ) (o : Op) (l : LabelDef) → RowAt ps es m p ts → At m.code p o → leaves o ≡ false → Behind ps es m ts o us → LabelAt m (p + 1) l → RowFits ps us l.row

-- a path goes from a point to the next unless a return or jump stands there, and to the point of each label that is named there
pub data Path (m : MethodDef) : ℕ → ℕ → Type 0 where
  here : {p : ℕ} → Path m p p
  on : {p q : ℕ} {o : Op} → At m.code p o → leaves o ≡ false → Path m (p + 1) q → Path m p q
  to : {p q k n : ℕ} {o : Op} {l : LabelDef} → At m.code p o → At (named_labels o) k n → At m.labels n l → Path m l.point q → Path m p q
