use Rattle.std.proofs.Common.{◌≤◌, length}
use Rattle.card.specs.CardMeaning.{card_of}
use Rattle.session.specs.CallMeaning.{taken_calls}
use Rattle.session.proofs.CallFacts.{Performed}
use Rattle.session.proofs.perform.perform_all.Given as goal

abbrev pub invariant-loop-i : goal.invariant-loop-i
invariant-loop-i g l =
    (l.i ≤ length l.calls)
    × Performed g.H.Host.reply (taken_calls (length l.initial.buffer) (length l.initial.responses) l.calls)
    (card_of g.T.ClassTable.listed l.initial.card) (g.H.Host.condition l.initial.host) l.initial.buffer l.initial.responses
    l.i (card_of g.T.ClassTable.listed l.card) (g.H.Host.condition l.host) l.buffer l.responses
