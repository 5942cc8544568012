use Rattle.std.proofs.Common.{ap, ◌∙◌}
use Rattle.semantics.specs.Items.{items_of}
use Rattle.semantics.proofs.Walks.{exits}
use Rattle.machine.specs.Frames.{frame_of}
use Rattle.machine.specs.Turns.{top_of, rest_of, turned}
use Rattle.machine.proofs.Turning.{invoke_turn, invoke_breaks}
use Rattle.machine.proofs.run.Frames.invoke.Goals as goal

pub returns-in_err-row : goal.returns-in_err-row
returns-in_err-row g c =
    let s = c.args.store.now in
    let r = c.args.self.now in
    let e = g.H.Host.condition c.args.host.now in
    ap (λ o. turned o r e) (exits c.from_residual.result c.in_err-row.field-0.0 c.from_residual.ensures.1)
    ∙ invoke_breaks (g.T.ClassTable.listed s.env.table.now) s.env.entries.now s.bodies.now g.H.Host.reply (frame_of c.top.result.now) (top_of r) (rest_of r) e
    c.args.into c.args.receiver c.args.name (items_of c.args.arguments.now) c.call-call.result.receiver (items_of c.call-call.result.arguments) c.as_slice.result.now
    c.top.ensures c.call-call.ensures.receiver c.call-call.ensures.arguments (c.as_slice.ensures ∙ c.kinds-kinds.ensures)
    c.in_err-row.field-0.0 c.callee-called.result c.in_err-row.ensures c.callee-called.ensures.value

pub returns : goal.returns
returns g c =
    let s = c.args.store.now in
    let r = c.args.self.now in
    invoke_turn (g.T.ClassTable.listed s.env.table.now) s.env.entries.now s.bodies.now g.H.Host.reply (frame_of c.top.result.now) (top_of r) (rest_of r) (g.H.Host.condition c.args.host.now)
    c.args.into c.args.receiver c.args.name (items_of c.args.arguments.now) c.call-call.result.receiver (items_of c.call-call.result.arguments) c.as_slice.result.now
    c.top.ensures c.call-call.ensures.receiver c.call-call.ensures.arguments (c.as_slice.ensures ∙ c.kinds-kinds.ensures)
    c.in_ok-row.row c.callee-called.result _ c.in_ok-row.ensures c.callee-called.ensures.value c.call.ensures
