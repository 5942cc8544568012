-- The text of a method.
use Rattle.std.specs.Prelude.{ℕ, List, [], ◌∷◌, ◌++◌, map, codes, decimal}
use Rattle.std.specs.Fmt.{signed_decimal}
use Rattle.semantics.specs.declared.operation.Operand.{Operand}
use Rattle.semantics.specs.declared.operation.Operand.TheVariants.{Local, Temporary, Constant}
use Rattle.semantics.specs.declared.operation.Destination.{Destination}
use Rattle.semantics.specs.declared.operation.Destination.TheVariants as destination
use Rattle.semantics.specs.Methods.{Op, return, jump, jump_if, jump_list, invoke, LabelDef, MethodDef}
use Rattle.semantics.specs.Pieces.{joined_by}

-- an operand is its letter, l or t or the sign #, and its number
abbrev pub operand_text : Operand → List ℕ
operand_text (Local n) = 108 ∷ decimal n
operand_text (Temporary n) = 116 ∷ decimal n
operand_text (Constant z) = 35 ∷ signed_decimal z

abbrev pub destination_text : Destination → List ℕ
destination_text (destination.Local n) = 108 ∷ decimal n
destination_text (destination.Temporary n) = 116 ∷ decimal n

-- classes are parted by commas
abbrev pub classes_text : List ℕ → List ℕ
classes_text ns = joined_by 44 (map decimal ns)

-- an operation is its letter and its operands, parted by blanks
abbrev pub words : Op → List (List ℕ)
words (return a) = codes "R" ∷ operand_text a ∷ []
words (jump n) = codes "J" ∷ decimal n ∷ []
words (jump_if a n) = codes "F" ∷ operand_text a ∷ decimal n ∷ []
words (jump_list a ns) = codes "L" ∷ operand_text a ∷ map decimal ns
words (invoke d a m bs) = codes "V" ∷ destination_text d ∷ operand_text a ∷ decimal m ∷ map operand_text bs

abbrev pub op_text : Op → List ℕ
op_text o = joined_by 32 (words o)

abbrev pub label_text : LabelDef → List ℕ
label_text l = decimal l.point ++ (58 ∷ classes_text l.row)

-- a line is its word with =, its value and byte 10; then the lines behind it
abbrev pub line_text : List ℕ → List ℕ → List ℕ → List ℕ
line_text word value rest = word ++ (value ++ (10 ∷ rest))

abbrev pub code_text : List Op → List ℕ
code_text [] = []
code_text (o ∷ os) = line_text (codes "op=") (op_text o) (code_text os)

abbrev pub labels_text : List LabelDef → List ℕ → List ℕ
labels_text [] rest = rest
labels_text (l ∷ ls) rest = line_text (codes "label=") (label_text l) (labels_text ls rest)

abbrev pub method_text : MethodDef → List ℕ
method_text m =
    line_text (codes "class=") (decimal m.class)
    (line_text (codes "name=") (decimal m.name)
    (line_text (codes "args=") (classes_text m.arguments)
    (line_text (codes "result=") (decimal m.result)
    (line_text (codes "temps=") (decimal m.temporaries)
    (labels_text m.labels (code_text m.code))))))
