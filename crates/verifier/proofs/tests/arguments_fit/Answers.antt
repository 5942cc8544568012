use Rattle.std.proofs.Common.{ℕ, not, Some, None, rules, tests, ◌∙◌}
use Rattle.std.proofs.lemmas.Iterator.{YieldsList-from_slice, YieldsList-from_zip}
use Rattle.std.proofs.lemmas.Iterator.Adapters.{position_from-zero}
use Rattle.std.proofs.lemmas.Iterator.Search.{position_from_yields_List}
use Rattle.std.specs.List.{zip}
use Rattle.semantics.specs.Tree.{fits}
use Rattle.verifier.proofs.FirstFaults.{first_argument}
use Rattle.verifier.proofs.tests.arguments_fit.Goals as goal

pub returns-in-Some : goal.returns-in-Some
returns-in-Some g c =
    let ps = g.T.ClassTable.listed c.args.table.now in
    let faulty = λ (z : ℕ × ℕ). not (fits ps z.0 z.1) in
    first_argument ps c.args.given.now c.args.declared.now (Some c.in-Some.i)
    (position_from_yields_List faulty c.position.new.self _ _ c.in-Some.ensures.ran (YieldsList-from_zip (YieldsList-from_slice c.args.given.now cc) (YieldsList-from_slice c.args.declared.now cc)) (λ x b q k. search (rules, tests))
    ∙ position_from-zero faulty (zip c.args.given.now c.args.declared.now))

pub returns-in-None : goal.returns-in-None
returns-in-None g c =
    let ps = g.T.ClassTable.listed c.args.table.now in
    let faulty = λ (z : ℕ × ℕ). not (fits ps z.0 z.1) in
    first_argument ps c.args.given.now c.args.declared.now None
    (position_from_yields_List faulty c.position.new.self _ _ c.in-None.ensures.ran (YieldsList-from_zip (YieldsList-from_slice c.args.given.now cc) (YieldsList-from_slice c.args.declared.now cc)) (λ x b q k. search (rules, tests))
    ∙ position_from-zero faulty (zip c.args.given.now c.args.declared.now))
