use Rattle.std.proofs.Common.{◌≡◌, ℕ, ◌≤◌, length, sym, ap, ◌∙◌, arith}
use Rattle.semantics.specs.declared.array_vec.ArrayVec.{ArrayVec}
use Rattle.semantics.specs.declared.operation.Operand.{Operand}
use Rattle.semantics.specs.declared.operation.Destination.{Destination}
use Rattle.semantics.specs.Items.{items_of}
use Rattle.semantics.specs.Methods.{Op, op_of}
use Rattle.semantics.specs.Values.{mapped, both, number_at, operand_at, destination_at, list_of, invocation, invoke_of}
use Rattle.text.specs.Parts.{piece_of, parts_left}
use Rattle.semantics.proofs.Walks.{exits}
use Rattle.text.proofs.Taking.{with_part, part_ok, invoke_by, invoked, invoked_malformed, invoked_over, list_few, list_many}
use Rattle.text.proofs.operation.read_invoke.Goals as goal
use Rattle.text.proofs.operation.read_invoke.Goals.{In_ok-next_part-2, In_ok-next_part-3, After-both-3}

-- what the parts say, behind the first two and behind the first three
second : (c : In_ok-next_part-2) → invoke_of (parts_left c.args.parts) ≡ with_part (parts_left c.next_part-2.new.self) (λ m bs. invoked (destination_at (piece_of c.in_ok-next_part.field-0)) (operand_at (piece_of c.in_ok-next_part-2.field-0)) (number_at 255 m) (list_of 7 operand_at bs))
second c =
    invoke_by (parts_left c.args.parts)
    ∙ part_ok (piece_of c.in_ok-next_part.field-0) (parts_left c.args.parts) (parts_left c.next_part.new.self) _ c.in_ok-next_part.ensures.value c.next_part.ensures.after
    ∙ part_ok (piece_of c.in_ok-next_part-2.field-0) (parts_left c.next_part.new.self) (parts_left c.next_part-2.new.self) _ c.in_ok-next_part-2.ensures.value c.next_part-2.ensures.after

third : (c : In_ok-next_part-3) → with_part (parts_left c.next_part-2.new.self) (λ m bs. invoked (destination_at (piece_of c.in_ok-next_part.field-0)) (operand_at (piece_of c.in_ok-next_part-2.field-0)) (number_at 255 m) (list_of 7 operand_at bs)) ≡ invoked (destination_at (piece_of c.in_ok-next_part.field-0)) (operand_at (piece_of c.in_ok-next_part-2.field-0)) (number_at 255 (piece_of c.in_ok-next_part-3.field-0)) (list_of 7 operand_at (parts_left c.next_part-3.new.self))
third c = part_ok (piece_of c.in_ok-next_part-3.field-0) (parts_left c.next_part-2.new.self) (parts_left c.next_part-3.new.self) _ c.in_ok-next_part-3.ensures.value c.next_part-3.ensures.after

pub returns-then-len-gt-MAX_ARGUMENTS : goal.returns-then-len-gt-MAX_ARGUMENTS
returns-then-len-gt-MAX_ARGUMENTS c =
    let k = goal.at.returns-then-len-gt-MAX_ARGUMENTS c in
    sym (second k.In_ok-next_part-2 ∙ third k.In_ok-next_part-3
    ∙ invoked_malformed (destination_at (piece_of c.in_ok-next_part.field-0)) (operand_at (piece_of c.in_ok-next_part-2.field-0)) (number_at 255 (piece_of c.in_ok-next_part-3.field-0)) _
    (list_many 7 operand_at (parts_left c.next_part-3.new.self) (omega (arith, c.len.ensures, c.if-len-gt-MAX_ARGUMENTS.true))))

-- the same over what was read
abbrev invocation_of : Destination × (Operand × (ℕ × ArrayVec Operand 7)) → Op
invocation_of x = invocation (x.0, (x.1.0, (x.1.1.0, items_of x.1.1.1)))

fourth : (c : After-both-3) → invoke_of (parts_left c.args.parts) ≡ mapped invocation_of c.both-3.result
fourth c =
    let k = goal.at.After-both-3 c in
    let few : length (parts_left c.next_part-3.new.self) ≤ 7 = omega (arith, c.len.ensures, c.if-len-gt-MAX_ARGUMENTS.false) in
    second k.In_ok-next_part-2 ∙ third k.In_ok-next_part-3
    ∙ (λ i. invoked (sym c.read-into.ensures i) (sym c.read-receiver.ensures i) (sym c.number-name.ensures.value i) ((list_few 7 operand_at (parts_left c.next_part-3.new.self) few ∙ sym c.list-arguments.ensures) i))
    ∙ invoked_over items_of c.read-into.result c.read-receiver.result c.number-name.result c.list-arguments.result
    ∙ ap (λ x. mapped invocation_of (both c.read-into.result (both c.read-receiver.result x))) (sym c.both.ensures)
    ∙ ap (λ x. mapped invocation_of (both c.read-into.result x)) (sym c.both-2.ensures)
    ∙ ap (mapped invocation_of) (sym c.both-3.ensures)

pub returns-in_err-into : goal.returns-in_err-into
returns-in_err-into c =
    ap (mapped op_of) (exits c.from_residual-in_err-into.result _ c.from_residual-in_err-into.ensures.1)
    ∙ ap (mapped invocation_of) (sym c.in_err-into.was) ∙ sym (fourth (goal.at.returns-in_err-into c).After-both-3)

pub returns : goal.returns
returns c = ap (mapped invocation_of) (sym c.in_ok-into.was) ∙ sym (fourth (goal.at.returns c).After-both-3)
