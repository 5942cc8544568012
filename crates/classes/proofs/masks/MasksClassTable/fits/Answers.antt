use Rattle.std.proofs.Common.{sym, arith}
use Rattle.semantics.specs.Items.{items_of}
use Rattle.semantics.proofs.TreeOrder.{fits_absent}
use Rattle.classes.specs.Masked.{parents_in}
use Rattle.classes.proofs.MaskTable as table
use Rattle.classes.proofs.masks.MasksClassTable.fits.Goals as goal

pub returns-then-b-count : goal.returns-then-b-count
returns-then-b-count c = sym (fits_absent (parents_in (items_of c.args.self.now.masks)) c.args.a c.args.b (omega arith))

pub returns : goal.returns
returns c = table.bit_test c.mask.result c.args.b _ (c.mask.ensures.bits c.args.b)
