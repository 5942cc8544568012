use Rattle.std.proofs.Common.{sym, ◌∙◌}
use Rattle.semantics.specs.Items.{items_of}
use Rattle.classes.proofs.MaskTable as table
use Rattle.classes.proofs.masks.MasksClassTable.count.Goals as goal

pub returns : goal.returns
returns c = let s = c.args.self.now in c.len.ensures ∙ sym (table.size (items_of s.masks) s.tree s.first s.steps)
