use Rattle.std.proofs.Common.{◌-◌, ◌<◌, map, get_or, sym, ap, ◌∙◌, arith}
use Rattle.semantics.specs.Runs.{received, closed, destination_of}
use Rattle.semantics.specs.Stores.{code_at, op_at}
use Rattle.machine.specs.Frames.{frame_of, no_frame, stacked, store_of}
use Rattle.machine.specs.Turns.{top_of}
use Rattle.machine.proofs.Stacks.{stacked_some}
use Rattle.machine.proofs.run.Frames.closed.Goals as goal

pub returns : goal.returns
returns g c =
    let s = store_of g.T.ClassTable.listed c.args.store.now in
    let r = c.args.self.now in
    let fs = map frame_of r.frames in
    let h : 0 < r.depth - 1 = omega (arith, r.some, c.if-self-eq1.false) in
    c.received.ensures
    ∙ ap (λ d. received s (get_or fs (r.depth - 1 - 1) no_frame) (stacked fs (r.depth - 1 - 1)) tt d c.args.value)
    (c.destination_at-into.ensures ∙ ap (λ f. destination_of (op_at (code_at s f.row) f.point)) c.top-frame.ensures)
    ∙ sym (ap (λ l. closed s (top_of r) l tt c.args.value) (stacked_some fs (r.depth - 1) h))
