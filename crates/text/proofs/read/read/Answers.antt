use Rattle.std.proofs.Common.{◌≡◌, List, [], Ok, Result, sym, ap, ◌∙◌}
use Rattle.semantics.specs.declared.refusal.Refusal.{Refusal}
use Rattle.semantics.specs.Methods.{LabelDef, MethodDef, method_of}
use Rattle.semantics.specs.Reading.{Read, read, so, Head, head_at, labels_on, code_on, method_from, method_in}
use Rattle.semantics.proofs.TextLaws.{read_was_written}
use Rattle.text.specs.Lines.{left_of}
use Rattle.text.specs.Whole.{head_of, labels_of, code_of, saying_as}
use Rattle.semantics.proofs.Walks.{exits}
use Rattle.text.proofs.read.read.Goals as goal
use Rattle.text.proofs.read.read.Goals.{In_ok-class, In_ok-labels}

-- what a text says behind its head, and behind its labels
abbrev body_of : Head → Read (List LabelDef) → Result MethodDef Refusal
body_of h l = so (code_on 64 [] l.left) (λ os. Ok (method_from h l.said os))

abbrev rest_of : Read Head → Result MethodDef Refusal
rest_of h = so (labels_on 16 h.said.temporaries [] h.left) (body_of h.said)

first : (c : In_ok-class) → method_in c.args.text.now ≡ rest_of (read (head_of c.in_ok-class.field-0) (left_of c.read_head.new.reader))
first c = ap (λ v. so (head_at v) rest_of) (sym c.new-reader.ensures) ∙ ap (λ r. so r rest_of) (sym c.in_ok-class.ensures)

second : (c : In_ok-labels) → rest_of (read (head_of c.in_ok-class.field-0) (left_of c.read_head.new.reader)) ≡ body_of (head_of c.in_ok-class.field-0) (read (labels_of c.in_ok-labels.labels) (left_of c.read_labels.new.reader))
second c = ap (λ r. so r (body_of (head_of c.in_ok-class.field-0))) (sym c.in_ok-labels.ensures)

pub returns-in_err-class-clause-value : goal.returns-in_err-class-clause-value
returns-in_err-class-clause-value c =
    ap (saying_as method_of) (exits c.from_residual.result _ c.from_residual.ensures.1)
    ∙ ap (λ r. so r rest_of) c.in_err-class.ensures ∙ ap (λ v. so (head_at v) rest_of) c.new-reader.ensures

pub returns-clause-only : goal.returns-clause-only
returns-clause-only c =
    let k = goal.at.returns-clause-only c in
    let m = method_from (head_of c.in_ok-class.field-0) (labels_of c.in_ok-labels.labels) (code_of c.in_ok-code.code) in
    let e : Ok m ≡ method_in c.args.text.now =
    ap (λ r. so r (λ os. Ok (method_from (head_of c.in_ok-class.field-0) (labels_of c.in_ok-labels.labels) os))) c.in_ok-code.ensures
    ∙ sym (first k.In_ok-class ∙ second k.In_ok-labels) in
    read_was_written c.args.text.now m (sym e)
