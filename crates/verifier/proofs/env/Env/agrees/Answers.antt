use Rattle.std.proofs.Common.{Some, None, rules, tests, ◌∙◌}
use Rattle.std.proofs.lemmas.Iterator.{YieldsList-from_slice}
use Rattle.std.proofs.lemmas.Iterator.Adapters.{position_from-zero}
use Rattle.std.proofs.lemmas.Iterator.Search.{position_from_yields_List}
use Rattle.semantics.specs.Entries.{entry_of}
use Rattle.semantics.specs.NewRows.{clashes}
use Rattle.semantics.specs.declared.entry.Entry.{Entry}
use Rattle.verifier.proofs.FirstFaults.{first_clash}
use Rattle.verifier.proofs.env.Env.agrees.Goals as goal

pub returns-in-Some : goal.returns-in-Some
returns-in-Some g c =
    let ps = g.T.ClassTable.listed c.args.self.now.table.now in
    let clashing = λ (x : Entry). clashes ps (entry_of c.args.entry.now) (entry_of x) in
    first_clash ps (entry_of c.args.entry.now) c.args.self.now.entries.now (Some c.in-Some.row)
    (position_from_yields_List clashing _ _ _ c.in-Some.ensures.ran (YieldsList-from_slice c.args.self.now.entries.now cc) (λ x b q k. search (rules, tests))
    ∙ position_from-zero clashing c.args.self.now.entries.now)

pub returns-in-None : goal.returns-in-None
returns-in-None g c =
    let ps = g.T.ClassTable.listed c.args.self.now.table.now in
    let clashing = λ (x : Entry). clashes ps (entry_of c.args.entry.now) (entry_of x) in
    first_clash ps (entry_of c.args.entry.now) c.args.self.now.entries.now None
    (position_from_yields_List clashing _ _ _ c.in-None.ensures.ran (YieldsList-from_slice c.args.self.now.entries.now cc) (λ x b q k. search (rules, tests))
    ∙ position_from-zero clashing c.args.self.now.entries.now)
