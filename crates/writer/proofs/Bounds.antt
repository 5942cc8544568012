-- Every text of a method is short: far below what the output counts to.
use Rattle.std.proofs.Common.{◌≡◌, ℕ, zero, suc, ◌+◌, ◌*◌, ◌/◌, ◌%◌, ◌^◌, ◌<◌, ◌≤◌, Bool, true, false, cond, eqb, List, [], ◌∷◌, ◌++◌, map, length, ℤ, pos, negsuc, codes, decimal, mul-suc, arith}
use Rattle.std.specs.Fmt.{digits, digits_onto, digit_glyph, signed_decimal}
use Rattle.std.proofs.lemmas.List.{length-append, length-take-le}
use Rattle.semantics.specs.declared.array_vec.ArrayVec.{ArrayVec}
use Rattle.semantics.specs.declared.operation.Operand.{Operand}
use Rattle.semantics.specs.declared.operation.Operand.TheVariants as operand
use Rattle.semantics.specs.declared.operation.Destination.{Destination}
use Rattle.semantics.specs.declared.operation.Destination.TheVariants as destination
use Rattle.semantics.specs.declared.operation.Operation.{Operation}
use Rattle.semantics.specs.declared.operation.Operation.TheVariants.{Return, Jump, JumpIf, JumpList, Invoke}
use Rattle.semantics.specs.declared.method.Label.{Label}
use Rattle.semantics.specs.declared.method.Method.{Method}
use Rattle.semantics.specs.Items.{items_of}
use Rattle.semantics.specs.Methods.{method_of, label_of, op_of}
use Rattle.semantics.specs.Pieces.{joined_by}
use Rattle.semantics.specs.Printing.{operand_text, destination_text, classes_text, op_text, label_text, line_text, code_text, labels_text, method_text}

-- a numeral has at most 64 digits, whatever the number
spelled_short : (k base : ℕ) (upper : Bool) (n : ℕ) (acc : List ℕ) → length (digits_onto k base upper n acc) ≤ k + length acc
spelled_short zero base upper n acc = omega arith
spelled_short (suc k) base upper n acc =
    let more = spelled_short k base upper (n / base) (digit_glyph upper (n % base) ∷ acc) in
    elim (eqb (n / base) 0) as (λ b. length (cond b (digit_glyph upper (n % base) ∷ acc) (digits_onto k base upper (n / base) (digit_glyph upper (n % base) ∷ acc))) ≤ suc k + length acc) [
      | true ↦ omega arith
      | false ↦ omega (arith, more)
    ]

decimal_short : (n : ℕ) → length (decimal n) ≤ 64
unfolding digits
decimal_short n = spelled_short 64 10 false n []

signed_short : (z : ℤ) → length (signed_decimal z) ≤ 65
signed_short (pos n) = omega (arith, decimal_short n)
signed_short (negsuc n) = omega (arith, decimal_short (suc n))

operand_short : (a : Operand) → length (operand_text a) ≤ 66
operand_short (operand.Local n) = omega (arith, decimal_short n)
operand_short (operand.Temporary n) = omega (arith, decimal_short n)
operand_short (operand.Constant z) = omega (arith, signed_short z)

destination_short : (d : Destination) → length (destination_text d) ≤ 65
destination_short (destination.Local n) = omega (arith, decimal_short n)
destination_short (destination.Temporary n) = omega (arith, decimal_short n)

-- items of at most k bytes, each but the first behind a separator
parted_short : {X : Type 0} (sep : ℕ) (f : X → List ℕ) (k : ℕ) → ((x : X) → length (f x) ≤ k) → (xs : List X) (w : List ℕ) → length (joined_by sep (w ∷ map f xs)) ≤ length w + suc k * length xs
parted_short sep f k h [] w = omega arith
parted_short sep f k h (x ∷ xs) w = omega (arith, length-append w (sep ∷ joined_by sep (f x ∷ map f xs)), h x, parted_short sep f k h xs (f x), mul-suc (suc k) (length xs))

items_few : {T : Type 0} {N : ℕ} (v : ArrayVec T N) → length (items_of v) ≤ N
items_few v = omega (arith, length-take-le v.count v.items (omega (arith, v.few, v.long)), v.few)

classes_short : (ns : List ℕ) → length (classes_text ns) ≤ 65 * length ns
classes_short [] = omega arith
classes_short (n ∷ ns) = omega (arith, parted_short 44 decimal 64 decimal_short ns (decimal n), decimal_short n)

op_short : (o : Operation) → length (op_text (op_of o)) ≤ 700
op_short (Return a) = omega (arith, operand_short a)
op_short (Jump n) = omega (arith, decimal_short n)
op_short (JumpIf a n) = omega (arith, operand_short a, decimal_short n, length-append (operand_text a) (32 ∷ decimal n))
op_short (JumpList a ns) = omega (arith, operand_short a, parted_short 32 decimal 64 decimal_short (items_of ns) (operand_text a), items_few ns)
op_short (Invoke d a m bs) =
    let name = joined_by 32 (decimal m ∷ map operand_text (items_of bs)) in
    omega (
      arith,
      length-append (destination_text d) (32 ∷ (operand_text a ++ (32 ∷ name))),
      length-append (operand_text a) (32 ∷ name),
      destination_short d,
      operand_short a,
      decimal_short m,
      parted_short 32 operand_text 66 operand_short (items_of bs) (decimal m),
      items_few bs,
    )

length_line : (w v rest : List ℕ) → length (line_text w v rest) ≡ length w + (length v + suc (length rest))
length_line w v rest = simp length-append

code_short : (os : List Operation) → length (code_text (map op_of os)) ≤ 704 * length os
code_short [] = omega arith
code_short (o ∷ os) = omega (arith, length_line (codes "op=") (op_text (op_of o)) (code_text (map op_of os)), op_short o, code_short os, mul-suc 704 (length os))

label_short : (l : Label) → length (label_text (label_of l)) ≤ 593
label_short l = omega (arith, length-append (decimal l.point) (58 ∷ classes_text (items_of l.row)), decimal_short l.point, classes_short (items_of l.row), items_few l.row)

labels_short : (ls : List Label) (rest : List ℕ) → length (labels_text (map label_of ls) rest) ≤ 600 * length ls + length rest
labels_short [] rest = omega arith
labels_short (l ∷ ls) rest = omega (arith, length_line (codes "label=") (label_text (label_of l)) (labels_text (map label_of ls) rest), label_short l, labels_short ls rest, mul-suc 600 (length ls))

-- the whole text
pub method_short : (m : Method) → length (method_text (method_of m)) < 2 ^ 64
method_short m =
    let code = code_text (map op_of (items_of m.code)) in
    let labels = labels_text (map label_of (items_of m.labels)) code in
    let temporaries = line_text (codes "temps=") (decimal m.temporaries) labels in
    let result = line_text (codes "result=") (decimal m.result) temporaries in
    let arguments = line_text (codes "args=") (classes_text (items_of m.arguments)) result in
    let name = line_text (codes "name=") (decimal m.name) arguments in
    omega (
      arith,
      length_line (codes "class=") (decimal m.class) name,
      length_line (codes "name=") (decimal m.name) arguments,
      length_line (codes "args=") (classes_text (items_of m.arguments)) result,
      length_line (codes "result=") (decimal m.result) temporaries,
      length_line (codes "temps=") (decimal m.temporaries) labels,
      decimal_short m.class,
      decimal_short m.name,
      classes_short (items_of m.arguments),
      items_few m.arguments,
      decimal_short m.result,
      decimal_short m.temporaries,
      labels_short (items_of m.labels) code,
      items_few m.labels,
      code_short (items_of m.code),
      items_few m.code,
    )
