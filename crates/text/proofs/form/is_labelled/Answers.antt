use Rattle.std.proofs.Common.{eqb, ◌∙◌, rules, tests}
use Rattle.semantics.specs.declared.method.Label.{Label}
use Rattle.std.proofs.lemmas.Iterator.{YieldsList-from_slice}
use Rattle.std.proofs.lemmas.Iterator.Search.{any_from_yields_List}
use Rattle.text.proofs.Walks.{labelled_any}
use Rattle.text.proofs.form.is_labelled.Goals as goal

pub returns : goal.returns
returns c =
    any_from_yields_List (λ (l : Label). eqb l.point c.args.point) _ _ _ c.any.ensures.ran (YieldsList-from_slice c.args.labels.now cc) (λ x b q k. search (rules, tests))
    ∙ labelled_any c.args.point c.args.labels.now
