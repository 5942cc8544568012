use Rattle.std.proofs.Common.{◌∙◌, arith}
use lib.Bits.{and_le_l}
use Rattle.semantics.specs.Items.{items_of}
use Rattle.semantics.proofs.TreeOrder.{tree_from}
use Rattle.classes.specs.Masked.{parents_in}
use Rattle.classes.proofs.CommonBits.{highest_join}
use Rattle.classes.proofs.masks.MasksClassTable.join.Goals as goal

pub returns : goal.returns
returns c =
    let s = c.args.self.now in
    let l = and_le_l c.mask.result c.mask-2.result in
    c.highest_bit.ensures
    ∙ highest_join (parents_in (items_of s.masks)) (tree_from s.tree) c.args.a c.args.b c.mask.result c.mask-2.result
    c.mask.ensures.bits c.mask-2.ensures.bits (omega arith)
