use Rattle.std.proofs.Common.{◌-◌, ◌∙◌}
use Rattle.std.proofs.lemmas.List.{length-set}
use Rattle.semantics.specs.Runs.{put_in}
use Rattle.machine.proofs.Stacks.{top_written, rest_kept, rest_waits}
use Rattle.machine.proofs.run.Frames.put.Goals as goal

pub invariant_of-self : goal.invariant_of-self
invariant_of-self c =
    let r = c.args.self.now in
    record { some = r.some; few = r.few; long = length-set r.frames (r.depth - 1) _ ∙ r.long; waiting = rest_waits r _ }

pub returns : goal.returns
returns c =
    let r = c.args.self.now in
    record { top = top_written r _ _ (λ f. put_in f c.args.into c.args.value) c.put.ensures; rest = rest_kept r _ }
