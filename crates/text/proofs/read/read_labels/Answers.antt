use Rattle.std.proofs.Common.{◌≡◌, ◌-◌, ◌<◌, length, Err, sym, ap, ◌∙◌, arith}
use Rattle.semantics.specs.declared.refusal.Refusal.TheVariants.{Line}
use Rattle.semantics.specs.Items.{items_of}
use Rattle.semantics.specs.Methods.{label_of}
use Rattle.semantics.specs.Reading.{labels_on}
use Rattle.semantics.proofs.ReadingSteps.{labels_stop, labels_full}
use Rattle.text.specs.Lines.{left_of, read_as}
use Rattle.text.specs.Whole.{labels_of}
use Rattle.text.proofs.Bodies.{push_as, labels_turn, labels_break}
use Rattle.semantics.proofs.Walks.{exits}
use Rattle.text.proofs.read.read_labels.Goals as goal

pub returns-then-len-eq-MAX_LABELS : goal.returns-then-len-eq-MAX_LABELS
returns-then-len-eq-MAX_LABELS c =
    let none : 16 - length (items_of c.loop-temporaries.labels) ≡ 0 = omega arith in
    ap (λ p. Err (Line p)) c.place.ensures
    ∙ sym (labels_full c.args.temporaries.count (labels_of c.loop-temporaries.labels) (left_of c.loop-temporaries.reader) (sym c.loop-temporaries-test.ensures))
    ∙ ap (λ k. labels_on k c.args.temporaries.count (labels_of c.loop-temporaries.labels) (left_of c.loop-temporaries.reader)) (sym none) ∙ c.loop-temporaries.invariant.0

pub returns-in_err-label : goal.returns-in_err-label
returns-in_err-label c =
    let room : length (items_of c.loop-temporaries.labels) < 16 = omega arith in
    ap (λ r. read_as labels_of r (left_of c.label.new.self)) (exits c.from_residual.result _ c.from_residual.ensures.1)
    ∙ labels_break (length (items_of c.loop-temporaries.labels)) c.args.temporaries.count (labels_of c.loop-temporaries.labels) (left_of c.loop-temporaries.reader) c.in_err-label.field-0.0 _ room c.loop-temporaries-test.ensures c.in_err-label.ensures c.loop-temporaries.invariant.0

pub loop-temporaries-preserved : goal.loop-temporaries-preserved
loop-temporaries-preserved c =
    let n = length (items_of c.loop-temporaries.labels) in
    let room : n < 16 = omega arith in
    let p = push_as label_of 16 (items_of c.loop-temporaries.labels) (items_of c.push.new.self) c.in_ok-label.field-0 c.push.ensures.after room in (
      ap (λ k. labels_on (16 - k) c.args.temporaries.count (labels_of c.push.new.self) (left_of c.label.new.self)) p.1
          ∙ labels_turn n c.args.temporaries.count (labels_of c.loop-temporaries.labels) (labels_of c.push.new.self) (label_of c.in_ok-label.field-0) (left_of c.loop-temporaries.reader) (left_of c.label.new.self) _
          room c.loop-temporaries-test.ensures c.in_ok-label.ensures p.0 c.loop-temporaries.invariant.0,
      omega (arith, p.1),
    )

pub returns : goal.returns
returns c =
    sym (labels_stop (16 - length (items_of c.loop-temporaries.labels)) c.args.temporaries.count (labels_of c.loop-temporaries.labels) (left_of c.loop-temporaries.reader) (sym c.loop-temporaries-test.ensures)) ∙ c.loop-temporaries.invariant.0
