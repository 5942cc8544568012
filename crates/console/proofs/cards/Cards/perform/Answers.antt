use Rattle.semantics.proofs.PromiseHolds.{promised_from}
use Rattle.console.proofs.cards.Cards.perform.Goals as goal

pub returns-clause-promise : goal.returns-clause-promise
returns-clause-promise g c = promised_from g.H.Host.reply _ _ _
