-- What a method is: its head, its labels and its code, as lists.
use Rattle.std.specs.Prelude.{◌≡◌, ℕ, ◌^◌, ◌<◌, ◌≤◌, List, [], ◌∷◌, map, length}
use Rattle.std.specs.Int.Signed.{mag}
use Rattle.semantics.specs.declared.operation.Operand.{Operand}
use Rattle.semantics.specs.declared.operation.Operand.TheVariants as operand
use Rattle.semantics.specs.declared.operation.Destination.{Destination}
use Rattle.semantics.specs.declared.operation.Destination.TheVariants as destination
use Rattle.semantics.specs.declared.operation.Operation.{Operation}
use Rattle.semantics.specs.declared.operation.Operation.TheVariants.{Return, Jump, JumpIf, JumpList, Invoke}
use Rattle.semantics.specs.declared.method.Label.{Label}
use Rattle.semantics.specs.declared.method.Method.{Method}
use Rattle.semantics.specs.Items.{items_of}

-- the five operations
pub data Op : Type 0 where
  return : Operand → Op
  jump : ℕ → Op
  jump_if : Operand → ℕ → Op
  jump_list : Operand → List ℕ → Op
  invoke : Destination → Operand → ℕ → List Operand → Op

-- a label: the point that it marks, and one class for each temporary
pub record LabelDef : Type 0 where
  pub point : ℕ
  pub row : List ℕ

pub record MethodDef : Type 0 where
  pub class : ℕ
  pub name : ℕ
  pub arguments : List ℕ
  pub result : ℕ
  pub temporaries : ℕ
  pub labels : List LabelDef
  pub code : List Op

-- what the code's own types mean
abbrev pub op_of : Operation → Op
op_of (Return a) = return a
op_of (Jump n) = jump n
op_of (JumpIf a n) = jump_if a n
op_of (JumpList a ns) = jump_list a (items_of ns)
op_of (Invoke d a m bs) = invoke d a m (items_of bs)

abbrev pub label_of : Label → LabelDef
label_of l = record { point = l.point; row = items_of l.row }

abbrev pub method_of : Method → MethodDef
method_of m = record {
  class = m.class;
  name = m.name;
  arguments = items_of m.arguments;
  result = m.result;
  temporaries = m.temporaries;
  labels = map label_of (items_of m.labels);
  code = map op_of (items_of m.code);
}

-- every item of a list
abbrev pub Each : {X : Type 0} → (X → Type 0) → List X → Type 0
Each P [] = Unit {0}
Each P (x ∷ xs) = P x × Each P xs

-- classes, points, labels, locals and temporaries run to 63, names to 255
abbrev pub Small : ℕ → Type 0
Small n = n ≤ 63

abbrev pub OperandInRange : Operand → Type 0
OperandInRange (operand.Local n) = Small n
OperandInRange (operand.Temporary n) = Small n
OperandInRange (operand.Constant z) = mag z < 2 ^ 31

abbrev pub DestinationInRange : Destination → Type 0
DestinationInRange (destination.Local n) = Small n
DestinationInRange (destination.Temporary n) = Small n

abbrev pub OpInRange : Op → Type 0
OpInRange (return a) = OperandInRange a
OpInRange (jump n) = Small n
OpInRange (jump_if a n) = OperandInRange a × Small n
OpInRange (jump_list a ns) = OperandInRange a × (0 < length ns) × (length ns ≤ 8) × Each Small ns
OpInRange (invoke d a m bs) = DestinationInRange d × OperandInRange a × (m ≤ 255) × (length bs ≤ 7) × Each OperandInRange bs

abbrev pub LabelInRange : ℕ → LabelDef → Type 0
LabelInRange temporaries l = Small l.point × (length l.row ≡ temporaries) × Each Small l.row

-- the methods that a text can tell
pub record InRange (m : MethodDef) : Type 0 where
  pub class : Small m.class
  pub name : m.name ≤ 255
  pub few_arguments : length m.arguments ≤ 7
  pub arguments : Each Small m.arguments
  pub result : Small m.result
  pub temporaries : m.temporaries ≤ 8
  pub few_labels : length m.labels ≤ 16
  pub labels : Each (LabelInRange m.temporaries) m.labels
  pub some_code : 0 < length m.code
  pub few_points : length m.code ≤ 64
  pub code : Each OpInRange m.code
