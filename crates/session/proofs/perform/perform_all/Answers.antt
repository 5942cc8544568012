use Rattle.std.proofs.Common.{◌<◌, ◌≤◌, length, ap, ◌∙◌, arith}
use Rattle.std.proofs.lemmas.List.{set-get_or}
use Rattle.semantics.proofs.PromiseHolds.{promised_from}
use Rattle.session.specs.CallMeaning.{call_of}
use Rattle.session.proofs.CallFacts.{taken_length, call_at, performed_more, performed_all}
use Rattle.session.proofs.perform.perform_all.Goals as goal

pub loop-i-preserved : goal.loop-i-preserved
loop-i-preserved g c =
    let room = length c.args.buffer.now in
    let places = length c.args.responses.now in
    let call = c.in-Some.call.now in
    let h : c.loop-i.i < length c.args.calls.now = c.in-Some.ensures.lookup.3.0 in (
      omega arith,
      performed_more _ _ _ _ _ _ _ _ (call_of (length c.loop-i.buffer) call) _ _ _ _ _ _ _ _
          (call_at room places c.loop-i.i c.args.calls.now call h c.in-Some.ensures.lookup.1 (omega arith)) (ap (λ n. call_of n call) c.loop-i.auto.buffer) (omega (arith, c.loop-i.auto.responses))
          c.perform.ensures.response c.perform.ensures.card c.perform.ensures.host c.perform.ensures.buffer c.loop-i.invariant.1,
    )

pub returns-after-loop-i-clause-responses : goal.returns-after-loop-i-clause-responses
returns-after-loop-i-clause-responses g c =
    (performed_all _ _ _ _ _ _ _ _ _ _ _ (omega (arith, taken_length (length c.args.buffer.now) (length c.args.responses.now) c.args.calls.now)) c.loop-i.invariant.1).1

pub returns-after-loop-i-clause-promise : goal.returns-after-loop-i-clause-promise
returns-after-loop-i-clause-promise g c = promised_from g.H.Host.reply _ _ _

pub returns-in_default-clause-responses : goal.returns-in_default-clause-responses
returns-in_default-clause-responses g c =
    let h : length c.args.calls.now ≤ c.loop-i.i = c.in_default.ensures.lookup.3 in
    set-get_or _ _ _
    ∙ (performed_all _ _ _ _ _ _ _ _ _ _ _ (omega (arith, taken_length (length c.args.buffer.now) (length c.args.responses.now) c.args.calls.now)) c.loop-i.invariant.1).1

pub returns-in_default-clause-promise : goal.returns-in_default-clause-promise
returns-in_default-clause-promise g c = promised_from g.H.Host.reply _ _ _
