use Rattle.std.proofs.Common.{ℕ, length, None, Option, ap, ◌∙◌}
use lib.ListN.{length-replicate}
use Rattle.semantics.specs.Items.{items_of}
use Rattle.filler.proofs.Labelling.{numbers_start}
use Rattle.filler.proofs.labels.label_numbers.Goals as goal

pub loop-i-init : goal.loop-i-init
loop-i-init c =
    (λ p h. numbers_start 64 p (items_of c.repeat-numbers.result) _ c.repeat-numbers.ensures, ap length c.repeat-numbers.ensures ∙ length-replicate {A = Option ℕ} 64 None)
