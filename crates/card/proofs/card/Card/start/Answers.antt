use Rattle.std.proofs.Common.{ap}
use Rattle.semantics.specs.Cards.{CardDef, first_frame, with_run}
use Rattle.semantics.specs.Items.{items_of}
use Rattle.machine.specs.Frames.{stored, store_of}
use Rattle.card.specs.CardMeaning.{card_of}
use Rattle.card.specs.Openings.{opening_of}
use Rattle.card.proofs.StartFacts.{after_refused, after_begun}
use Rattle.card.proofs.card.Card.start.Goals as goal

pub returns-in_err-opening-clause-after : goal.returns-in_err-opening-clause-after
returns-in_err-opening-clause-after g c =
    after_refused (card_of g.T.ClassTable.listed c.args.self.now) c.args.receiver c.args.name c.args.arguments.now c.in_ok-free.ensures c.in_err-opening.field-0.0 c.in_err-opening.ensures

pub returns-clause-after : goal.returns-clause-after
returns-clause-after g c =
    let k : CardDef = card_of g.T.ClassTable.listed c.args.self.now in
    let o = c.in_ok-opening.opening in
    after_begun k c.args.receiver c.args.name c.args.arguments.now c.in_ok-free.ensures _ (opening_of o)
    (first_frame (store_of g.T.ClassTable.listed c.store-store.result) o.receiver o.name (items_of o.arguments))
    c.in_ok-opening.ensures c.in_ok-present.ensures
    (λ i. first_frame (stored (g.T.ClassTable.listed (c.store-store.ensures.table i)) (c.store-store.ensures.entries i) (c.store-store.ensures.bodies i)) o.receiver o.name (items_of o.arguments))
    (ap (with_run k) c.begin.ensures.run)
