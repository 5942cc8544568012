use Rattle.std.proofs.Common.{map, length, ◌∙◌}
use Rattle.semantics.specs.Entries.{entry_of}
use Rattle.semantics.specs.FillCall.{filled_answer}
use Rattle.card.proofs.card.Card.fill.Goals as goal

pub returns-clause-answer : goal.returns-clause-answer
returns-clause-answer g c =
    c.fill.ensures.answer
    ∙ (λ i. filled_answer (g.T.ClassTable.listed (c.env.ensures.table i)) (map entry_of (c.env.ensures.entries i)) c.args.text.now (length c.args.buffer.now))
