use Rattle.std.proofs.Common.{◌≡◌, ◌-◌, ◌<◌, length, Err, sym, ap, ◌∙◌, arith}
use Rattle.semantics.specs.declared.refusal.Refusal.TheVariants.{Line}
use Rattle.semantics.specs.Items.{items_of}
use Rattle.semantics.specs.Methods.{op_of}
use Rattle.semantics.specs.Reading.{code_on}
use Rattle.semantics.proofs.ReadingSteps.{code_full}
use Rattle.text.specs.Lines.{left_of}
use Rattle.text.specs.Whole.{code_of, saying_as}
use Rattle.text.proofs.Bodies.{push_as, code_turn, code_done, code_break}
use Rattle.semantics.proofs.Walks.{exits}
use Rattle.text.proofs.read.read_code.Goals as goal

pub returns-in_err-operation : goal.returns-in_err-operation
returns-in_err-operation c =
    let room : length (items_of c.loop-code.code) < 64 = omega arith in
    ap (saying_as code_of) (exits c.from_residual.result _ c.from_residual.ensures.1)
    ∙ code_break (length (items_of c.loop-code.code)) (code_of c.loop-code.code) (left_of c.loop-code.reader) c.in_err-operation.field-0.0 _ room c.in_err-operation.ensures c.loop-code.invariant.0

pub returns-then-is_done : goal.returns-then-is_done
returns-then-is_done c =
    let n = length (items_of c.loop-code.code) in
    let room : n < 64 = omega arith in
    let p = push_as op_of 64 (items_of c.loop-code.code) (items_of c.push.new.self) c.in_ok-operation.field-0 c.push.ensures.after room in
    code_done n (code_of c.loop-code.code) (code_of c.push.new.self) (op_of c.in_ok-operation.field-0) (left_of c.loop-code.reader) (left_of c.operation.new.self) _
    room c.in_ok-operation.ensures p.0 c.if-is_done.ensures c.loop-code.invariant.0

pub loop-code-preserved : goal.loop-code-preserved
loop-code-preserved c =
    let n = length (items_of c.loop-code.code) in
    let room : n < 64 = omega arith in
    let p = push_as op_of 64 (items_of c.loop-code.code) (items_of c.push.new.self) c.in_ok-operation.field-0 c.push.ensures.after room in (
      ap (λ k. code_on (64 - k) (code_of c.push.new.self) (left_of c.operation.new.self)) p.1
          ∙ code_turn n (code_of c.loop-code.code) (code_of c.push.new.self) (op_of c.in_ok-operation.field-0) (left_of c.loop-code.reader) (left_of c.operation.new.self) _
          room c.in_ok-operation.ensures p.0 c.if-is_done.ensures c.loop-code.invariant.0,
      omega (arith, p.1),
    )

pub returns : goal.returns
returns c =
    let n = length (items_of c.loop-code.code) in
    let none : 64 - n ≡ 0 = omega arith in
    ap (λ p. Err (Line p)) c.place.ensures
    ∙ sym (code_full (code_of c.loop-code.code) (left_of c.loop-code.reader))
    ∙ ap (λ k. code_on k (code_of c.loop-code.code) (left_of c.loop-code.reader)) (sym none) ∙ c.loop-code.invariant.0
