use Rattle.std.proofs.Common.{◌≡◌, ◌+◌, ◌-◌, ◌≤◌, Ok, ◌∙◌, ap, arith}
use Rattle.semantics.specs.Endings.{end}
use Rattle.machine.specs.Frames.{store_of}
use Rattle.machine.proofs.Going.{turn_ended, turn_taken, turn_step, goes}
use Rattle.machine.proofs.run.Run.go.Goals as goal

pub returns-in-InHand-Err : goal.returns-in-InHand-Err
returns-in-InHand-Err g c =
    let s = store_of g.T.ClassTable.listed c.args.store.now in
    let l = c.loop-self in
    let h = g.H.Host.condition in
    let q = c.in-InHand-Err.stop in
    let p = goes s g.H.Host.reply c.args.steps c.args.self.now (h c.args.host.now) (h l.host) (Ok (end q.ending l.taken q.row q.point)) _
    (turn_ended s g.H.Host.reply (c.args.steps - l.taken) l.taken l.outcome q l.self c.in-InHand-Err.field-0-0 (h l.host) _ c.in-InHand-Err.is-0 c.in-InHand-Err.is-1 l.invariant.1) in
    record { answer = ap Ok c.end.ensures ∙ p.0; run = c.clear.ensures ∙ p.1; host = p.2 }

pub returns-then-taken-steps : goal.returns-then-taken-steps
returns-then-taken-steps g c =
    let s = store_of g.T.ClassTable.listed c.args.store.now in
    let l = c.loop-self in
    let h = g.H.Host.condition in
    let n = c.args.steps - l.taken in
    let none : n ≡ 0 = omega (arith, c.if-taken-steps.true) in
    let p = goes s g.H.Host.reply c.args.steps c.args.self.now (h c.args.host.now) (h l.host) (Ok c.end-then-taken-steps.result) _
    (turn_taken s g.H.Host.reply n l.taken l.outcome c.in-InHand-Ok.field-0-1 l.self c.in-InHand-Ok.frames (h l.host) _ c.end-then-taken-steps.result c.in-InHand-Ok.is-0 c.in-InHand-Ok.is-1 none (c.end-then-taken-steps.ensures ∙ ap (λ t. end t.ending l.taken t.row t.point) c.stop.ensures) l.invariant.1) in
    record { answer = p.0; run = p.1; host = p.2 }

pub loop-self-preserved : goal.loop-self-preserved
loop-self-preserved g c =
    let s = store_of g.T.ClassTable.listed c.args.store.now in
    let l = c.loop-self in
    let h = g.H.Host.condition in
    let n = c.args.steps - l.taken in
    let more : l.taken + 1 ≤ c.args.steps = omega (arith, c.if-taken-steps.false, l.invariant.0) in
    let one : n ≡ (c.args.steps - (l.taken + 1)) + 1 = omega (arith, more) in
    (more, turn_step s g.H.Host.reply n (c.args.steps - (l.taken + 1)) l.taken l.outcome c.step-outcome.result c.in-InHand-Ok.field-0-1 l.self c.in-InHand-Ok.frames c.step-outcome.new.self (h l.host) (h c.step-outcome.new.host) _ c.in-InHand-Ok.is-0 c.in-InHand-Ok.is-1 one c.step-outcome.ensures l.invariant.1)
