-- What the card of the code means.
use Rattle.std.specs.Prelude.{ℕ, List, map}
use Rattle.semantics.specs.Cards.{CardDef}
use Rattle.semantics.specs.Entries.{entry_of}
use Rattle.semantics.specs.Items.{items_of}
use Rattle.semantics.specs.Stores.{Store, body_of}
use Rattle.card.specs.declared.card.Card.{Card}
use Rattle.card.specs.declared.rows.Rows.{Rows}
use Rattle.machine.specs.Turns.{run_of}

-- the classes and rows; f tells the parents that a class table lists
abbrev pub store_of : {T : Type 0} → (T → List ℕ) → T → Rows → Store
store_of f t r = record { classes = f t; entries = map entry_of (items_of r.entries); bodies = map body_of (items_of r.bodies) }

abbrev pub card_of : {T : Type 0} → (T → List ℕ) → Card T → CardDef
card_of f k = record { kind = k.kind; store = store_of f k.table k.rows; run = run_of k.run }
