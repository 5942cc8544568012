use Rattle.std.proofs.Common.{rules, ◌∙◌}
use Rattle.verifier.proofs.Lookups.{lookup_ends, number_within}
use Rattle.verifier.proofs.Options.{mapped}
use Rattle.verifier.proofs.env.Env.lookup.Goals as goal

pub returns : goal.returns
returns g c =
    let ps = g.T.ClassTable.listed c.args.self.now.table.now in
    let e = mapped (λ a. a.number) _ c.loop-number.best c.map.result (λ a n q. search rules) c.map.ensures.cases
    ∙ lookup_ends ps c.args.self.now.entries.now c.args.class c.args.name c.loop-number.number c.loop-number.best c.loop-number-test.false c.loop-number.invariant in
    record { value = e; within = number_within ps c.args.self.now.entries.now c.args.class c.args.name _ e }
