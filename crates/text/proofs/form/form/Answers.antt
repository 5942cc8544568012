use Rattle.semantics.specs.Methods.{method_of}
use Rattle.text.proofs.Walks.{told_exact, told_first}
use Rattle.text.proofs.form.form.Goals as goal

pub returns-clause-exact : goal.returns-clause-exact
returns-clause-exact c = told_exact (method_of c.args.method.now) _ c.first_fault.ensures

pub returns-clause-first : goal.returns-clause-first
returns-clause-first c = told_first (method_of c.args.method.now) _ c.first_fault.ensures
