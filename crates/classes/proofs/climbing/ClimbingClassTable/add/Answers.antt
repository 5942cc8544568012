use Rattle.std.proofs.Common.{ℕ, [], ◌∷◌, ◌++◌, ap, ◌∙◌, arith}
use Rattle.semantics.specs.Tree.{adding}
use Rattle.classes.proofs.Climbs as climbs
use Rattle.classes.proofs.climbing.ClimbingClassTable.add.Goals as goal

pub invariant_of-self : goal.invariant_of-self
invariant_of-self c =
    let s = c.args.self.now in
    let q = c.in_ok-above.above in
    let u = c.in_ok-above.ensures.made in
    record {
      few = omega arith;
      long = climbs.long_grown s q (omega arith) (omega arith) (omega arith);
      tree = climbs.shape_grown s q (omega arith) (omega arith) (omega arith);
    }

pub returns : goal.returns
returns c =
    let s = c.args.self.now in
    let q = c.in_ok-above.above in
    let u = c.in_ok-above.ensures.made in
    record {
      answer = climbs.adding_ok s q (omega arith) (omega arith) (omega arith) ∙ ap (adding (climbs.listed s)) u.0;
      list = climbs.grown s q (omega arith) (omega arith) (omega arith) ∙ ap (λ (x : ℕ). climbs.listed s ++ x ∷ []) u.0;
    }
