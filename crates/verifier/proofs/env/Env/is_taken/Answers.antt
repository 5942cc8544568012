use Rattle.std.proofs.Common.{◌&&◌, eqb, rules, tests, ◌∙◌}
use Rattle.std.proofs.lemmas.Iterator.{YieldsList-from_slice}
use Rattle.std.proofs.lemmas.Iterator.Search.{any_from_yields_List}
use Rattle.semantics.specs.Entries.{entry_of}
use Rattle.verifier.proofs.NewEntries.{taken_any}
use Rattle.verifier.proofs.env.Env.is_taken.Goals as goal

pub returns : goal.returns
returns g c =
    any_from_yields_List (λ o. eqb o.name c.args.entry.now.name && eqb o.class c.args.entry.now.class) _ _ c.any.result c.any.ensures.ran (YieldsList-from_slice c.args.self.now.entries.now cc) (λ x b q k. search (rules, tests))
    ∙ taken_any (entry_of c.args.entry.now) c.args.self.now.entries.now
