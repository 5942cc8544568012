-- What each refusal tells: its number, its layer and two places, 0 where a place is not used.
use Rattle.std.specs.Prelude.{ℕ, List, ◌∷◌, ◌++◌, codes, decimal}
use Rattle.semantics.specs.declared.refusal.Layer.{Layer}
use Rattle.semantics.specs.declared.refusal.Layer.TheVariants.{Text, Form, Card, Check, Run}
use Rattle.semantics.specs.declared.refusal.Capacity.{Capacity}
use Rattle.semantics.specs.declared.refusal.Capacity.TheVariants.{Classes, Depth, Rows, Points}
use Rattle.semantics.specs.declared.refusal.Told.{Told}
use Rattle.semantics.specs.declared.refusal.Refusal.{Refusal}
use Rattle.semantics.specs.declared.refusal.Refusal.TheVariants.{
  Line,
  Malformed,
  OutOfRange,
  ArgumentOutOfRange,
  LabelPoint,
  Absent,
  OpenEnd,
  BufferTooShort,
  ClassAbsent,
  Full,
  NameTaken,
  SignatureDiffers,
  NoRow,
  Argument,
  ResultClass,
  Condition,
  RowMisfit,
  Unreached,
  RunInHand,
  NoRunInHand,
  NativeRow,
  NoSuchRow,
  StartNoRow,
  StartArgument,
}

abbrev pub telling : ℕ → Layer → ℕ → ℕ → Told
telling n l a b = record { number = n; layer = l; first = a; second = b }

-- which capacity is used up
abbrev pub capacity_number : Capacity → ℕ
capacity_number Classes = 0
capacity_number Depth = 1
capacity_number Rows = 2
capacity_number Points = 3

abbrev pub told : Refusal → Told
told (Line at) = telling 1 Text at 0
told (Malformed at) = telling 2 Text at 0
told (OutOfRange at) = telling 3 Text at 0
told ArgumentOutOfRange = telling 3 Form 0 0
told (LabelPoint label) = telling 4 Form label 0
told (Absent point operand) = telling 5 Form point operand
told (OpenEnd point) = telling 6 Form point 0
told (BufferTooShort needed) = telling 7 Form needed 0
told (ClassAbsent place) = telling 8 Card place 0
told (Full what) = telling 9 Card (capacity_number what) 0
told NameTaken = telling 10 Card 0 0
told (SignatureDiffers row) = telling 11 Card row 0
told (NoRow point) = telling 12 Check point 1
told (Argument point operand) = telling 13 Check point operand
told (ResultClass point) = telling 14 Check point 0
told (Condition point) = telling 15 Check point 0
told (RowMisfit point operand) = telling 16 Check point operand
told (Unreached point) = telling 17 Check point 0
told RunInHand = telling 18 Run 0 0
told NoRunInHand = telling 19 Run 0 0
told NativeRow = telling 20 Run 0 0
told NoSuchRow = telling 22 Run 0 0
told StartNoRow = telling 12 Run 0 1
told (StartArgument operand) = telling 13 Run 0 operand

-- how a refusal is printed: refused=NUMBER:FIRST,SECOND
abbrev pub refusal_text : Refusal → List ℕ
refusal_text r = codes "refused=" ++ (decimal (told r).number ++ (58 ∷ (decimal (told r).first ++ (44 ∷ decimal (told r).second))))
