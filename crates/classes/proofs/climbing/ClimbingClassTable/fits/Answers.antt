use Rattle.std.proofs.Common.{◌∙◌, arith}
use Rattle.classes.proofs.Climbs as climbs
use Rattle.classes.proofs.climbing.ClimbingClassTable.fits.Goals as goal

pub returns-then-a-count : goal.returns-then-a-count
returns-then-a-count c = climbs.fits_missing c.args.self.now c.args.a c.args.b c.then-a-count.either

pub loop-at-smaller : goal.loop-at-smaller
loop-at-smaller c = climbs.low c.args.self.now c.loop-at.at (omega arith) c.loop-at.invariant.0

pub loop-at-preserved : goal.loop-at-preserved
loop-at-preserved c =
    let s = c.args.self.now in
    let m = climbs.low s c.loop-at.at (omega arith) c.loop-at.invariant.0 in
    (omega arith, climbs.fits_next s c.loop-at.at c.args.b c.loop-at.invariant.0 c.loop-at-test.true ∙ c.loop-at.invariant.1)

pub returns : goal.returns
returns c =
    climbs.fits_end c.args.self.now c.loop-at.at c.args.b c.loop-at.invariant.0 c.loop-at-test.false ∙ c.loop-at.invariant.1
