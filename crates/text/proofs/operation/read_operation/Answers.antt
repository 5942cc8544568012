use Rattle.std.proofs.Common.{◌∷◌, [], sym, ap, ◌∙◌, arith}
use Rattle.semantics.specs.Values.{lettered}
use Rattle.text.specs.Parts.{piece_of, parts_left}
use Rattle.text.proofs.Taking.{operation_by}
use Rattle.text.proofs.operation.read_operation.Goals as goal

pub returns-in-70 : goal.returns-in-70
returns-in-70 c =
    let u = c.in_ok-next_part.field-0 in
    let L = parts_left c.next_part.new.self in
    let e = operation_by (piece_of c.args.value) (piece_of u) (parts_left c.new-parts.result) L c.new-parts.ensures c.in_ok-next_part.ensures.value c.next_part.ensures.after (omega arith) in
    c.read_jump_if.ensures ∙ sym (e ∙ ap (λ x. lettered (x ∷ []) L) c.in-70.is)

pub returns-in-86 : goal.returns-in-86
returns-in-86 c =
    let u = c.in_ok-next_part.field-0 in
    let L = parts_left c.next_part.new.self in
    let e = operation_by (piece_of c.args.value) (piece_of u) (parts_left c.new-parts.result) L c.new-parts.ensures c.in_ok-next_part.ensures.value c.next_part.ensures.after (omega arith) in
    c.read_invoke.ensures ∙ sym (e ∙ ap (λ x. lettered (x ∷ []) L) c.in-86.is)
