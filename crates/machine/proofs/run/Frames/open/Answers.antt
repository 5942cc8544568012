use Rattle.std.proofs.Common.{◌+◌, ◌-◌, ◌<◌, map, length, sym, ◌∙◌, arith}
use Rattle.std.proofs.lemmas.List.{length-set}
use Rattle.std.proofs.lemmas.Bool.{lt-ltb, cond-true}
use Rattle.semantics.specs.Runs.{onward}
use Rattle.machine.specs.Frames.{frame_of}
use Rattle.machine.specs.Turns.{rest_of}
use Rattle.machine.proofs.Stacks.{more_top, more_rest, more_wait, stacked_length}
use Rattle.machine.proofs.run.Frames.open.Goals as goal

pub invariant_of-self : goal.invariant_of-self
invariant_of-self c =
    let r = c.args.self.now in
    record { some = omega arith; few = omega arith; long = length-set r.frames r.depth _ ∙ r.long; waiting = more_wait r _ c.requires }

pub returns : goal.returns
returns c =
    let r = c.args.self.now in
    let h : r.depth < length r.frames = omega (arith, r.long) in
    let l = stacked_length (map frame_of r.frames) (r.depth - 1) in
    let few : length (rest_of r) + 1 < 8 = omega (arith, l, r.some) in
    (λ i. onward ((more_top r c.opened.result h ∙ c.opened.ensures) i) (more_rest r c.opened.result i) tt)
    ∙ sym (cond-true _ _ _ (lt-ltb _ 8 few))
