-- What the value of a line says. In one value a malformed part comes before a number out of range, and of such numbers the first.
use Rattle.std.specs.Prelude.{ℕ, ◌+◌, cond, List, [], ◌∷◌, ◌++◌, length, ℤ, pos, neg_ℤ, Ok, Err, Result, ◌==◌, nat_le}
use Rattle.semantics.specs.declared.refusal.Fault.{Fault}
use Rattle.semantics.specs.declared.refusal.Fault.TheVariants.{Malformed, OutOfRange}
use Rattle.semantics.specs.declared.operation.Operand.{Operand}
use Rattle.semantics.specs.declared.operation.Operand.TheVariants.{Local, Temporary, Constant}
use Rattle.semantics.specs.declared.operation.Destination.{Destination}
use Rattle.semantics.specs.declared.operation.Destination.TheVariants as destination
use Rattle.semantics.specs.Methods.{Op, return, jump, jump_if, jump_list, invoke, LabelDef}
use Rattle.semantics.specs.Numbers.{is_numeral, is_positive, value_of}
use Rattle.semantics.specs.Pieces.{Piece, piece, parted, parted_or_none}

abbrev pub Said : Type 0 → Type 0
Said X = Result X Fault

abbrev pub mapped : {X Y : Type 0} → (X → Y) → Said X → Said Y
mapped f (Ok x) = Ok (f x)
mapped f (Err e) = Err e

-- the fault that is told of two, the first of which stands in front
abbrev pub worse : Fault → Fault → Fault
worse Malformed f = Malformed
worse (OutOfRange p) Malformed = Malformed
worse (OutOfRange p) (OutOfRange q) = OutOfRange p

abbrev pub both : {X Y : Type 0} → Said X → Said Y → Said (X × Y)
both (Ok x) (Ok y) = Ok (x, y)
both (Ok x) (Err f) = Err f
both (Err e) (Ok y) = Err e
both (Err e) (Err f) = Err (worse e f)

-- a number up to max
abbrev pub number_at : ℕ → Piece → Said ℕ
number_at max v =
    cond (is_numeral v.held) (cond (nat_le (value_of v.held) max) (Ok (value_of v.held)) (Err (OutOfRange v.place))) (Err Malformed)

-- a constant: a number, or a minus and a number that is not 0; from -2^31 to 2^31-1
abbrev pub below : ℕ → List ℕ → Said ℤ
below p ds = cond (is_positive ds) (cond (nat_le (value_of ds) 2147483648) (Ok (neg_ℤ (pos (value_of ds)))) (Err (OutOfRange p))) (Err Malformed)

abbrev pub constant_in : ℕ → List ℕ → Said ℤ
constant_in p [] = Err Malformed
constant_in p (c ∷ cs) = cond (c == 45) (below p cs) (mapped pos (number_at 2147483647 (piece p (c ∷ cs))))

-- an operand: the letter l or t and a number up to 63, or the sign # and a constant
abbrev pub operand_in : ℕ → List ℕ → Said Operand
operand_in p [] = Err Malformed
operand_in p (c ∷ cs) =
    cond (c == 108) (mapped Local (number_at 63 (piece (p + 1) cs)))
    (cond (c == 116) (mapped Temporary (number_at 63 (piece (p + 1) cs)))
    (cond (c == 35) (mapped Constant (constant_in (p + 1) cs)) (Err Malformed)))

abbrev pub operand_at : Piece → Said Operand
operand_at v = operand_in v.place v.held

abbrev pub destination_in : ℕ → List ℕ → Said Destination
destination_in p [] = Err Malformed
destination_in p (c ∷ cs) =
    cond (c == 108) (mapped destination.Local (number_at 63 (piece (p + 1) cs)))
    (cond (c == 116) (mapped destination.Temporary (number_at 63 (piece (p + 1) cs))) (Err Malformed))

abbrev pub destination_at : Piece → Said Destination
destination_at v = destination_in v.place v.held

-- a list of parts, at most n of them
abbrev pub appended : {X : Type 0} → Said (List X) → Said X → Said (List X)
appended (Ok xs) (Ok x) = Ok (xs ++ x ∷ [])
appended (Ok xs) (Err f) = Err f
appended (Err e) (Ok x) = Err e
appended (Err e) (Err f) = Err (worse e f)

abbrev pub list_on : {X : Type 0} → (Piece → Said X) → Said (List X) → List Piece → Said (List X)
list_on says so_far [] = so_far
list_on says so_far (v ∷ vs) = list_on says (appended so_far (says v)) vs

abbrev pub list_of : {X : Type 0} → ℕ → (Piece → Said X) → List Piece → Said (List X)
list_of n says vs = cond (nat_le (length vs) n) (list_on says (Ok []) vs) (Err Malformed)

-- the argument classes
abbrev pub arguments_at : Piece → Said (List ℕ)
arguments_at v = list_of 7 (number_at 63) (parted_or_none 44 v.place v.held)

-- a label: its point, a colon and its row, with one class for each of n temporaries
abbrev pub row_at : ℕ → Piece → Said (List ℕ)
row_at n v = cond (length (parted_or_none 44 v.place v.held) == n) (list_on (number_at 63) (Ok []) (parted_or_none 44 v.place v.held)) (Err Malformed)

abbrev pub label : ℕ × List ℕ → LabelDef
label x = record { point = x.0; row = x.1 }

abbrev pub label_parts : ℕ → List Piece → Said LabelDef
label_parts n [] = Err Malformed
label_parts n (v ∷ []) = Err Malformed
label_parts n (v ∷ w ∷ []) = mapped label (both (number_at 63 v) (row_at n w))
label_parts n (v ∷ w ∷ x ∷ xs) = Err Malformed

abbrev pub label_at : ℕ → Piece → Said LabelDef
label_at n v = label_parts n (parted 58 v.place v.held)

-- an operation: its letter and its operands, parted by blanks
abbrev pub return_of : List Piece → Said Op
return_of [] = Err Malformed
return_of (a ∷ []) = mapped return (operand_at a)
return_of (a ∷ b ∷ vs) = Err Malformed

abbrev pub jump_of : List Piece → Said Op
jump_of [] = Err Malformed
jump_of (n ∷ []) = mapped jump (number_at 63 n)
jump_of (n ∷ b ∷ vs) = Err Malformed

abbrev pub jump_if_of : List Piece → Said Op
jump_if_of [] = Err Malformed
jump_if_of (a ∷ []) = Err Malformed
jump_if_of (a ∷ n ∷ []) = mapped (λ x. jump_if x.0 x.1) (both (operand_at a) (number_at 63 n))
jump_if_of (a ∷ n ∷ b ∷ vs) = Err Malformed

abbrev pub jump_list_of : List Piece → Said Op
jump_list_of [] = Err Malformed
jump_list_of (a ∷ []) = Err Malformed
jump_list_of (a ∷ n ∷ ns) = mapped (λ x. jump_list x.0 x.1) (both (operand_at a) (list_of 8 (number_at 63) (n ∷ ns)))

abbrev pub invocation : Destination × (Operand × (ℕ × List Operand)) → Op
invocation x = invoke x.0 x.1.0 x.1.1.0 x.1.1.1

abbrev pub invoke_of : List Piece → Said Op
invoke_of [] = Err Malformed
invoke_of (d ∷ []) = Err Malformed
invoke_of (d ∷ a ∷ []) = Err Malformed
invoke_of (d ∷ a ∷ m ∷ bs) = mapped invocation (both (destination_at d) (both (operand_at a) (both (number_at 255 m) (list_of 7 operand_at bs))))

-- by the letters R, J, F, L and V
abbrev pub lettered : List ℕ → List Piece → Said Op
lettered [] vs = Err Malformed
lettered (c ∷ []) vs =
    cond (c == 82) (return_of vs)
    (cond (c == 74) (jump_of vs)
    (cond (c == 70) (jump_if_of vs)
    (cond (c == 76) (jump_list_of vs)
    (cond (c == 86) (invoke_of vs) (Err Malformed)))))
lettered (c ∷ d ∷ ds) vs = Err Malformed

abbrev pub operation_of : List Piece → Said Op
operation_of [] = Err Malformed
operation_of (k ∷ vs) = lettered k.held vs

abbrev pub operation_at : Piece → Said Op
operation_at v = operation_of (parted 32 v.place v.held)
