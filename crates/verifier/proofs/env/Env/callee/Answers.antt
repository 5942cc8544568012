use Rattle.std.proofs.Common.{Ok, Err, sym, ◌∙◌}
use Rattle.verifier.proofs.Callees.{callee_tests}
use Rattle.semantics.proofs.Walks.{exits}
use Rattle.verifier.proofs.env.Env.callee.Goals as goal

pub returns-in_err-taking-clause-value : goal.returns-in_err-taking-clause-value
returns-in_err-taking-clause-value g c =
    exits c.from_residual-in_err-taking.result _ c.from_residual-in_err-taking.ensures.1
    ∙ callee_tests (g.T.ClassTable.listed c.args.self.now.table.now) c.args.self.now.entries.now c.args.class c.args.name c.args.given.now c.in_ok-row.row c.index-self-row.result
    (Err c.in_err-taking.field-0.0) (sym c.in_ok-row.ensures.ok_part ∙ c.lookup.ensures.value) c.in_err-taking.ensures

pub returns-clause-value : goal.returns-clause-value
returns-clause-value g c =
    callee_tests (g.T.ClassTable.listed c.args.self.now.table.now) c.args.self.now.entries.now c.args.class c.args.name c.args.given.now c.in_ok-row.row c.index-self-row.result
    (Ok c.in_ok-taking.field-0) (sym c.in_ok-row.ensures.ok_part ∙ c.lookup.ensures.value) c.in_ok-taking.ensures
