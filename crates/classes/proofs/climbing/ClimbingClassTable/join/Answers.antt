use Rattle.std.proofs.Common.{◌∙◌, arith}
use Rattle.classes.proofs.Climbs as climbs
use Rattle.classes.proofs.climbing.ClimbingClassTable.join.Goals as goal

pub returns-then-a-count : goal.returns-then-a-count
returns-then-a-count c = climbs.join_missing c.args.self.now c.args.a c.args.b c.then-a-count.either

pub loop-x-smaller-then-x-y : goal.loop-x-smaller-then-x-y
loop-x-smaller-then-x-y c = let m = climbs.low c.args.self.now c.loop-x.x (omega arith) c.loop-x.invariant.0 in omega arith

pub loop-x-preserved-then-x-y : goal.loop-x-preserved-then-x-y
loop-x-preserved-then-x-y c =
    let s = c.args.self.now in
    let m = climbs.low s c.loop-x.x (omega arith) c.loop-x.invariant.0 in
    (omega arith, c.loop-x.invariant.1, climbs.join_next s c.loop-x.x c.loop-x.y c.loop-x.invariant.0 c.if-x-y.true ∙ c.loop-x.invariant.2)

pub loop-x-smaller : goal.loop-x-smaller
loop-x-smaller c = let m = climbs.low c.args.self.now c.loop-x.y (omega arith) c.loop-x.invariant.1 in omega arith

pub loop-x-preserved : goal.loop-x-preserved
loop-x-preserved c =
    let s = c.args.self.now in
    let m = climbs.low s c.loop-x.y (omega arith) c.loop-x.invariant.1 in
    (c.loop-x.invariant.0, omega arith, climbs.join_other s c.loop-x.x c.loop-x.y c.loop-x.invariant.1 (omega arith) ∙ c.loop-x.invariant.2)

pub returns : goal.returns
returns c = climbs.join_end c.args.self.now c.loop-x.x c.loop-x.y c.loop-x.invariant.0 c.loop-x-test.false ∙ c.loop-x.invariant.2
