-- What the card in hand means.
use Rattle.std.specs.Prelude.{ℕ, List, ◌++◌, take, drop}
use Rattle.semantics.specs.Cards.{CardDef}
use Rattle.card.specs.CardMeaning.{card_of}
use Rattle.classes.specs.declared.climbing.Climbing.{Climbing}
use Rattle.classes.specs.declared.masks.Masks.{Masks}
use Rattle.classes.specs.contracts.climbing.ClimbingClassTable.TheImpl as climbing
use Rattle.classes.specs.contracts.masks.MasksClassTable.TheImpl as masks
use Rattle.console.specs.declared.cards.Cards.{Cards}
use Rattle.console.specs.declared.cards.Cards.TheVariants as cards
use Rattle.console.specs.declared.command.Table.{Table}
use Rattle.console.specs.declared.command.Table.TheVariants as table

abbrev pub hand_of : Cards → CardDef
hand_of (cards.Climbing k) = card_of {T = Climbing} climbing.ghosts.listed k
hand_of (cards.Masks k) = card_of {T = Masks} masks.ghosts.listed k

-- the class table that it is over
abbrev pub table_of : Cards → Table
table_of (cards.Climbing k) = table.Climbing
table_of (cards.Masks k) = table.Masks

-- the whole buffer after a call that was lent its first bytes
abbrev pub lent : ℕ → (List ℕ → List ℕ) → List ℕ → List ℕ
lent room f buf = f (take room buf) ++ drop room buf
