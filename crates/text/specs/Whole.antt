-- What the parts of a method mean as they are read.
use Rattle.std.specs.Prelude.{List, map, Ok, Err, Result}
use Rattle.semantics.specs.declared.array_vec.ArrayVec.{ArrayVec}
use Rattle.semantics.specs.declared.method.Label.{Label}
use Rattle.semantics.specs.declared.operation.Operation.{Operation}
use Rattle.semantics.specs.declared.refusal.Refusal.{Refusal}
use Rattle.semantics.specs.Items.{items_of}
use Rattle.semantics.specs.Methods.{Op, LabelDef, op_of, label_of}
use Rattle.semantics.specs.Reading as reading
use Rattle.text.specs.declared.read.Head.{Head}

abbrev pub head_of : Head → reading.Head
head_of h = reading.head_of h.class h.name (items_of h.arguments) h.result h.temporaries.count

abbrev pub labels_of : ArrayVec Label 16 → List LabelDef
labels_of v = map label_of (items_of v)

abbrev pub code_of : ArrayVec Operation 64 → List Op
code_of v = map op_of (items_of v)

-- a result by its meaning f
abbrev pub saying_as : {X Y : Type 0} → (X → Y) → Result X Refusal → Result Y Refusal
saying_as f (Ok x) = Ok (f x)
saying_as f (Err e) = Err e
