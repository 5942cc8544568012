use Rattle.std.proofs.Common.{rules}
use Rattle.verifier.proofs.LabelRows.{row_got}
use Rattle.verifier.proofs.labels.label_row.Goals as goal

pub returns : goal.returns
returns c = row_got c.args.labels.now c.args.label c.get-label.result c.map_or_else.result _ _ (λ p. search rules) (λ y q. search rules) c.get-label.ensures.lookup c.map_or_else.ensures
