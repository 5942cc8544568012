-- The tests of an operation on the classes of its operands. The check makes them on the classes that a label table tells, the machine on those of its values.
use Rattle.std.specs.Prelude.{ℕ, zero, suc, ◌+◌, Bool, cond, List, [], ◌∷◌, map, length, Some, None, Ok, Err, Option, Result, ◌==◌, slice_index, slice_set}
use Rattle.semantics.specs.declared.misfit.Misfit.{Misfit}
use Rattle.semantics.specs.declared.misfit.Misfit.TheVariants as misfit
use Rattle.semantics.specs.declared.operation.Operand.{Operand}
use Rattle.semantics.specs.declared.operation.Operand.TheVariants as operand
use Rattle.semantics.specs.declared.operation.Destination.{Destination}
use Rattle.semantics.specs.declared.operation.Destination.TheVariants as destination
use Rattle.semantics.specs.Entries.{EntryDef, Found, lookup}
use Rattle.semantics.specs.Methods.{Op, return, jump, jump_if, jump_list, invoke, LabelDef, MethodDef}
use Rattle.semantics.specs.Rows.{row_fits}
use Rattle.semantics.specs.Tree.{fits}

abbrev pub Tested : Type 0 → Type 0
Tested X = Result X Misfit

-- a test that was passed, and then another; a demand; a row that has to be found
abbrev pub then : {X Y : Type 0} → Tested X → (X → Tested Y) → Tested Y
then (Ok x) f = f x
then (Err e) f = Err e

abbrev pub demand : Bool → Misfit → Tested (Unit {0})
demand b e = cond b (Ok tt) (Err e)

abbrev pub needed : {X : Type 0} → Option X → Misfit → Tested X
needed (Some x) e = Ok x
needed None e = Err e

abbrev pub bool_class : ℕ
bool_class = 1

abbrev pub int_class : ℕ
int_class = 2

-- the class of an operand, where the locals have the classes ls and the temporaries ts
abbrev pub operand_class : List ℕ → List ℕ → Operand → ℕ
operand_class ls ts (operand.Local n) = slice_index ls n
operand_class ls ts (operand.Temporary n) = slice_index ts n
operand_class ls ts (operand.Constant z) = int_class

-- a row of classes fits another
abbrev pub classes_fit : List ℕ → List ℕ → List ℕ → Bool
classes_fit ps xs ys = row_fits ps (λ c. c) (λ c. c) xs ys

-- the row of the label n
abbrev pub label_row : List LabelDef → ℕ → List ℕ
label_row [] n = []
label_row (l ∷ ls) zero = l.row
label_row (l ∷ ls) (suc n) = label_row ls n

-- arguments of the classes cs against those of a signature, from the operand k on
abbrev pub arguments_fit : List ℕ → ℕ → List ℕ → List ℕ → Tested (Unit {0})
arguments_fit ps k [] as' = Ok tt
arguments_fit ps k (c ∷ cs) [] = Ok tt
arguments_fit ps k (c ∷ cs) (a ∷ as') = then (demand (fits ps c a) (misfit.Argument k)) (λ _. arguments_fit ps (k + 1) cs as')

-- a row that is found takes arguments of the classes cs
abbrev pub taking : List ℕ → List ℕ → Found → Tested Found
taking ps cs f =
    then (demand (length cs == length f.entry.arguments) (misfit.Argument 2)) (λ _.
    then (arguments_fit ps 3 cs f.entry.arguments) (λ _. Ok f))

-- the row that is called by the name m on a receiver of class c with arguments of the classes cs
abbrev pub callee : List ℕ → List EntryDef → ℕ → ℕ → List ℕ → Tested Found
callee ps es c m cs =
    then (needed (lookup ps es c m) misfit.NoRow) (λ f.
    then (demand (length cs == length f.entry.arguments) (misfit.Argument 2)) (λ _.
    then (arguments_fit ps 3 cs f.entry.arguments) (λ _. Ok f)))

-- a result of class c for d: a local keeps the class that it is declared with, a temporary takes any
abbrev pub may_hold : List ℕ → List ℕ → Destination → ℕ → Tested (Unit {0})
may_hold ps declared (destination.Local n) c = demand (fits ps c (slice_index declared n)) misfit.ResultClass
may_hold ps declared (destination.Temporary n) c = Ok tt

-- the temporaries after a result of class c was put into d; a local keeps the class that it is declared with
abbrev pub put_into : List ℕ → List ℕ → List ℕ → Destination → ℕ → Tested (List ℕ)
put_into ps declared ts (destination.Local n) c = then (demand (fits ps c (slice_index declared n)) misfit.ResultClass) (λ _. Ok ts)
put_into ps declared ts (destination.Temporary n) c = Ok (slice_set ts n c)

-- the receiver and the arguments of a method, which its locals hold at first
abbrev pub locals_of : MethodDef → List ℕ
locals_of m = m.class ∷ m.arguments

-- an operation's own tests, and the temporaries behind it
abbrev pub own_tests : List ℕ → List EntryDef → MethodDef → List ℕ → Op → Tested (List ℕ)
own_tests ps es m ts (return a) = then (demand (fits ps (operand_class (locals_of m) ts a) m.result) misfit.ResultClass) (λ _. Ok ts)
own_tests ps es m ts (jump n) = Ok ts
own_tests ps es m ts (jump_if a n) = then (demand (fits ps (operand_class (locals_of m) ts a) bool_class) misfit.Condition) (λ _. Ok ts)
own_tests ps es m ts (jump_list a ns) = then (demand (fits ps (operand_class (locals_of m) ts a) int_class) misfit.Condition) (λ _. Ok ts)
own_tests ps es m ts (invoke d a n bs) =
    then (callee ps es (operand_class (locals_of m) ts a) n (map (operand_class (locals_of m) ts) bs)) (λ f. put_into ps (locals_of m) ts d f.entry.result)

-- the labels that an operation names, and the operand that the first of them is
abbrev pub named_labels : Op → List ℕ
named_labels (return a) = []
named_labels (jump n) = n ∷ []
named_labels (jump_if a n) = n ∷ []
named_labels (jump_list a ns) = ns
named_labels (invoke d a n bs) = []

abbrev pub first_label : Op → ℕ
first_label (return a) = 0
first_label (jump n) = 0
first_label (jump_if a n) = 1
first_label (jump_list a ns) = 1
first_label (invoke d a n bs) = 0

-- a row of cells against the rows of the labels ns, from the operand k on
abbrev pub cells_fit : {X : Type 0} → List ℕ → (X → ℕ) → List LabelDef → List X → ℕ → List ℕ → Tested (Unit {0})
cells_fit ps kind ls xs k [] = Ok tt
cells_fit ps kind ls xs k (n ∷ ns) = then (demand (row_fits ps kind (λ c. c) xs (label_row ls n)) (misfit.Row k)) (λ _. cells_fit ps kind ls xs (k + 1) ns)

-- the row ts against the rows of the labels ns, from the operand k on
abbrev pub labels_fit : List ℕ → List LabelDef → List ℕ → ℕ → List ℕ → Tested (Unit {0})
labels_fit ps ls ts k [] = Ok tt
labels_fit ps ls ts k (n ∷ ns) = then (demand (classes_fit ps ts (label_row ls n)) (misfit.Row k)) (λ _. labels_fit ps ls ts (k + 1) ns)
