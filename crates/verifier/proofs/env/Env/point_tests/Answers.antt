use Rattle.std.proofs.Common.{map, Ok, Err, ap, ◌∙◌}
use Rattle.semantics.specs.Entries.{entry_of}
use Rattle.semantics.specs.Items.{items_of}
use Rattle.semantics.specs.Methods.{label_of, method_of, op_of}
use Rattle.semantics.specs.Tests.{named_labels, first_label, cells_fit}
use Rattle.verifier.specs.Answers.{answered}
use Rattle.verifier.proofs.Checking.{tests_by}
use Rattle.semantics.proofs.Walks.{exits}
use Rattle.verifier.proofs.env.Env.point_tests.Goals as goal

pub returns-in_err-named_fit : goal.returns-in_err-named_fit
returns-in_err-named_fit g c =
    let ps = g.T.ClassTable.listed c.args.self.now.table.now in
    let o = op_of c.args.operation.now in
    ap (answered items_of) (exits c.from_residual-in_err-named_fit.result _ c.from_residual-in_err-named_fit.ensures.1)
    ∙ tests_by ps (map entry_of c.args.self.now.entries.now) (method_of c.args.method.now) (items_of c.args.row.now) o (items_of c.in_ok-after.after) (Err c.in_err-named_fit.field-0.0) c.in_ok-after.ensures
    (c.in_err-named_fit.ensures ∙ (λ i. cells_fit ps (λ k. k) (map label_of (c.as_slice.ensures i)) (c.as_slice-2.ensures i) (first_label o) (named_labels o)))

pub returns : goal.returns
returns g c =
    let ps = g.T.ClassTable.listed c.args.self.now.table.now in
    let o = op_of c.args.operation.now in
    tests_by ps (map entry_of c.args.self.now.entries.now) (method_of c.args.method.now) (items_of c.args.row.now) o (items_of c.in_ok-after.after) (Ok tt) c.in_ok-after.ensures
    (c.in_ok-named_fit.ensures ∙ (λ i. cells_fit ps (λ k. k) (map label_of (c.as_slice.ensures i)) (c.as_slice-2.ensures i) (first_label o) (named_labels o)))
