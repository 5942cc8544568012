use Rattle.std.proofs.Common.{arith}
use Rattle.classes.proofs.Climbs as climbs
use Rattle.classes.proofs.climbing.Climbing.depth.Goals as goal

pub loop-at-smaller : goal.loop-at-smaller
loop-at-smaller c = climbs.low c.args.self.now c.loop-at.at (omega arith) c.loop-at.invariant.0

pub loop-at-preserved : goal.loop-at-preserved
loop-at-preserved c =
    let s = c.args.self.now in
    let m = climbs.low s c.loop-at.at (omega arith) c.loop-at.invariant.0 in
    let d = climbs.depth_next s c.loop-at.at (omega arith) c.loop-at.invariant.0 in
    (omega arith, omega arith)

pub returns : goal.returns
returns c = let e = climbs.depth_end c.args.self.now c.loop-at.at c.loop-at-test.false in omega arith
