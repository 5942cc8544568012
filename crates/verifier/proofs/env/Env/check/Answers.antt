use Rattle.std.proofs.Common.{map, Err, ap, ◌∙◌}
use Rattle.semantics.specs.Entries.{entry_of}
use Rattle.semantics.specs.Items.{items_of}
use Rattle.semantics.specs.Methods.{method_of, op_of}
use Rattle.verifier.specs.Answers.{row_of}
use Rattle.verifier.proofs.Checking.{check_step, check_starts}
use Rattle.semantics.proofs.Walks.{exits, item_at}
use Rattle.verifier.proofs.env.Env.check.Goals as goal

pub loop-point-init : goal.loop-point-init
loop-point-init g c =
    check_starts (g.T.ClassTable.listed c.args.self.now.table.now) (map entry_of c.args.self.now.entries.now) (method_of c.args.method.now) c.as_slice-code.result.now (items_of c.repeat.result)
    c.args.method.now.few c.repeat.ensures (ap (map op_of) c.as_slice-code.ensures)

pub returns-in_err-current : goal.returns-in_err-current
returns-in_err-current g c =
    exits c.from_residual.result _ c.from_residual.ensures.1
    ∙ check_step (g.T.ClassTable.listed c.args.self.now.table.now) (map entry_of c.args.self.now.entries.now) (method_of c.args.method.now) c.loop-point.point (row_of c.loop-point.current) c.as_slice-code.result.now c.index-code-point.result
    (Err c.in_err-current.field-0.0) _ (item_at c.as_slice-code.result.now c.loop-point.point c.index-code-point.result c.loop-point-test.true c.index-code-point.is) c.in_err-current.ensures c.loop-point.invariant
