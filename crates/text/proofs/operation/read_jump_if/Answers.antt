use Rattle.std.proofs.Common.{◌≡◌, ℕ, sym, ap, ◌∙◌}
use Rattle.semantics.specs.declared.operation.Operand.{Operand}
use Rattle.semantics.specs.Methods.{Op, op_of, jump_if}
use Rattle.semantics.specs.Values.{mapped, both, number_at, operand_at, jump_if_of}
use Rattle.text.specs.Parts.{piece_of, parts_left}
use Rattle.semantics.proofs.Walks.{exits}
use Rattle.text.proofs.Taking.{with_part, at_end, part_ok, end_ok, jump_if_by}
use Rattle.text.proofs.operation.read_jump_if.Goals as goal
use Rattle.text.proofs.operation.read_jump_if.Goals.{In_ok-next_part, In_ok-next_part-2, In_ok-end}

abbrev pair : Operand × ℕ → Op
pair x = jump_if x.0 x.1

-- what the parts say, after one part, after two and at their end
first : (c : In_ok-next_part) → jump_if_of (parts_left c.args.parts) ≡ with_part (parts_left c.next_part.new.self) (λ n L. at_end L (mapped pair (both (operand_at (piece_of c.in_ok-next_part.field-0)) (number_at 63 n))))
first c =
    jump_if_by (parts_left c.args.parts)
    ∙ part_ok (piece_of c.in_ok-next_part.field-0) (parts_left c.args.parts) (parts_left c.next_part.new.self) _ c.in_ok-next_part.ensures.value c.next_part.ensures.after

second : (c : In_ok-next_part-2) → with_part (parts_left c.next_part.new.self) (λ n L. at_end L (mapped pair (both (operand_at (piece_of c.in_ok-next_part.field-0)) (number_at 63 n)))) ≡ at_end (parts_left c.next_part-2.new.self) (mapped pair (both (operand_at (piece_of c.in_ok-next_part.field-0)) (number_at 63 (piece_of c.in_ok-next_part-2.field-0))))
second c = part_ok (piece_of c.in_ok-next_part-2.field-0) (parts_left c.next_part.new.self) (parts_left c.next_part-2.new.self) _ c.in_ok-next_part-2.ensures.value c.next_part-2.ensures.after

third : (c : In_ok-end) → at_end (parts_left c.next_part-2.new.self) (mapped pair (both (operand_at (piece_of c.in_ok-next_part.field-0)) (number_at 63 (piece_of c.in_ok-next_part-2.field-0)))) ≡ mapped pair (both c.read-condition.result c.read-label.result)
third c =
    end_ok tt (parts_left c.next_part-2.new.self) _ c.in_ok-end.ensures
    ∙ (λ i. mapped pair (both (sym c.read-condition.ensures i) (sym c.read-label.ensures i)))

pub returns-in_err-condition : goal.returns-in_err-condition
returns-in_err-condition c =
    let k = goal.at.returns-in_err-condition c in
    ap (mapped op_of) (exits c.from_residual-in_err-condition.result _ c.from_residual-in_err-condition.ensures.1)
    ∙ ap (mapped pair) c.in_err-condition.ensures
    ∙ sym (first k.In_ok-next_part ∙ second k.In_ok-next_part-2 ∙ third k.In_ok-end)

pub returns : goal.returns
returns c =
    let k = goal.at.returns c in
    ap (mapped pair) c.in_ok-condition.ensures
    ∙ sym (first k.In_ok-next_part ∙ second k.In_ok-next_part-2 ∙ third k.In_ok-end)
