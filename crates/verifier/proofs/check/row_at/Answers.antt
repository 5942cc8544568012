use Rattle.std.proofs.Common.{eqb, rules, tests}
use Rattle.std.proofs.lemmas.Iterator.{YieldsList-from_slice}
use Rattle.std.proofs.lemmas.Iterator.Search.{find_from_yields_List}
use Rattle.semantics.specs.declared.method.Label.{Label}
use Rattle.verifier.proofs.LabelRows.{labelled_by}
use Rattle.verifier.proofs.Options.{mapped}
use Rattle.verifier.proofs.check.row_at.Goals as goal

pub returns : goal.returns
returns c =
    labelled_by c.args.point c.args.labels.now c.find-label.result c.map.result
    (find_from_yields_List (λ (x : Label). eqb x.point c.args.point) _ _ c.find-label.result c.find-label.ensures.ran (YieldsList-from_slice c.args.labels.now cc) (λ x b q k. search (rules, tests)))
    (mapped (λ y. y.now.row) _ c.find-label.result c.map.result (λ x y q. search rules) c.map.ensures.cases)
