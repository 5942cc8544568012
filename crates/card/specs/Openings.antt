-- What a start opens with, once its numbers are in range.
use Rattle.std.specs.Prelude.{ℕ, List, map, Ok, Result}
use Rattle.semantics.specs.declared.call.Offered.{Offered}
use Rattle.semantics.specs.declared.refusal.Refusal.{Refusal}
use Rattle.semantics.specs.declared.refusal.Refusal.TheVariants.{ArgumentOutOfRange}
use Rattle.semantics.specs.declared.value.Value.{Value}
use Rattle.semantics.specs.Cards.{start_in_range, taken}
use Rattle.semantics.specs.Form.{must}
use Rattle.semantics.specs.Items.{items_of}
use Rattle.semantics.specs.Reading.{so}
use Rattle.card.specs.declared.values.Opening.{Opening}

pub record OpeningDef : Type 0 where
  pub receiver : Value
  pub name : ℕ
  pub arguments : List Value

abbrev pub opening : Value → ℕ → List Value → OpeningDef
opening v m vs = record { receiver = v; name = m; arguments = vs }

abbrev pub opening_of : Opening → OpeningDef
opening_of o = opening o.receiver o.name (items_of o.arguments)

abbrev pub opened : Offered → ℕ → List Offered → Result OpeningDef Refusal
opened v m vs = so (must (start_in_range v m vs) ArgumentOutOfRange) (λ _. Ok (opening (taken v) m (map taken vs)))
