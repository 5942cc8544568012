use Rattle.std.proofs.Common.{map, Ok, ap, ◌∙◌, arith}
use Rattle.semantics.specs.Entries.{entry_of}
use Rattle.semantics.specs.Fill.{fill_on}
use Rattle.semantics.specs.Items.{items_of}
use Rattle.semantics.specs.Methods.{method_of}
use Rattle.semantics.specs.Reading.{so}
use Rattle.verifier.specs.Answers.{answered}
use Rattle.semantics.proofs.Walks.{exits}
use Rattle.semantics.specs.FillCall.{filled_with}
use Rattle.filler.specs.Fills.{filled_method}
use Rattle.filler.specs.Sweeps.{table_of, sweep_meaning}
use Rattle.verifier.proofs.Rows.{few_items}
use Rattle.filler.proofs.Filling.{no_rows, fill_more, fill_done, fill_breaks, fill_ends}
use Rattle.filler.proofs.fill.fill_rows.Goals as goal

pub loop-sweeps-init : goal.loop-sweeps-init
loop-sweeps-init g c =
    let f = few_items c.args.method.now.labels in
    ap (fill_on (g.T.ClassTable.listed c.args.env.now.table.now) (map entry_of c.args.env.now.entries.now) (method_of c.args.method.now) 913 0)
    (no_rows 16 c.len.result (items_of c.repeat-rows.result) (items_of c.args.method.now.labels) c.len.ensures (omega arith) c.repeat-rows.ensures)

pub returns-in_err-swept : goal.returns-in_err-swept
returns-in_err-swept g c =
    ap (answered filled_method) (exits c.from_residual.result _ c.from_residual.ensures.1)
    ∙ ap (λ r. so r (λ f. Ok (filled_with (method_of c.args.method.now) f)))
    (fill_breaks (g.T.ClassTable.listed c.args.env.now.table.now) (map entry_of c.args.env.now.entries.now) (method_of c.args.method.now) 913 c.loop-sweeps.sweeps (table_of c.loop-sweeps.rows) c.in_err-swept.field-0.0 _ (omega arith) c.in_err-swept.ensures c.loop-sweeps.invariant)

pub returns-then-not-swept : goal.returns-then-not-swept
returns-then-not-swept g c =
    c.finished.ensures
    ∙ ap (λ r. so r (λ f. Ok (filled_with (method_of c.args.method.now) f)))
    (fill_done (g.T.ClassTable.listed c.args.env.now.table.now) (map entry_of c.args.env.now.entries.now) (method_of c.args.method.now) 913 c.loop-sweeps.sweeps (table_of c.loop-sweeps.rows) (sweep_meaning c.in_ok-swept.swept) _ (omega arith) c.in_ok-swept.ensures c.if-not-swept.true c.loop-sweeps.invariant)

pub loop-sweeps-preserved : goal.loop-sweeps-preserved
loop-sweeps-preserved g c =
    fill_more (g.T.ClassTable.listed c.args.env.now.table.now) (map entry_of c.args.env.now.entries.now) (method_of c.args.method.now) 913 c.loop-sweeps.sweeps (table_of c.loop-sweeps.rows) (sweep_meaning c.in_ok-swept.swept) _ (omega arith) c.in_ok-swept.ensures c.if-not-swept.false c.loop-sweeps.invariant

pub returns : goal.returns
returns g c =
    ap (λ r. so r (λ f. Ok (filled_with (method_of c.args.method.now) f)))
    (fill_ends (g.T.ClassTable.listed c.args.env.now.table.now) (map entry_of c.args.env.now.entries.now) (method_of c.args.method.now) 913 c.loop-sweeps.sweeps (table_of c.loop-sweeps.rows) _ (omega arith) c.loop-sweeps.invariant)
