use Rattle.std.proofs.Common.{◌∙◌}
use Rattle.classes.proofs.Masking.{highest_told}
use Rattle.classes.proofs.masks.highest_bit.Goals as goal

pub returns : goal.returns
returns c =
    let r = c.checked_ilog2.ensures in
    c.unwrap_or.ensures ∙ highest_told c.args.bits c.checked_ilog2.result r.none r.power_le r.next_power_gt r.bound
