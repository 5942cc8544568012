use Rattle.std.proofs.Common.{ℕ, ap, ◌∙◌}
use Rattle.semantics.specs.Items.{items_of}
use Rattle.classes.specs.Masked.{bit}
use Rattle.classes.proofs.MaskTable as table
use Rattle.classes.proofs.masks.Masks.mask.Goals as goal

pub returns-clause-bits : goal.returns-clause-bits
returns-clause-bits c b =
    let s = c.args.self.now in
    ap (λ (x : ℕ). bit x b) c.get_or.ensures ∙ table.bits (items_of s.masks) s.tree s.first s.steps c.args.class b
