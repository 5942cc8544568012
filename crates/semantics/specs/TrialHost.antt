-- The number host is true to the trial card, and to every card that is grown from it without further native rows.
use Rattle.std.specs.Prelude.{◌≡◌, ℕ, List, [], ◌∷◌, ◌++◌}
use Rattle.semantics.specs.declared.call.Kind.{Kind}
use Rattle.semantics.specs.Calls.{CallDef, native, moments, state, after_all}
use Rattle.semantics.specs.Cards.{CardDef, blank_card}
use Rattle.semantics.specs.Entries.{EntryDef}
use Rattle.semantics.specs.Hosts.{number_reply}
use Rattle.semantics.specs.Lists.{At}
use Rattle.semantics.specs.Promise.{TrueAtEach}
use Rattle.semantics.specs.Runs.{idle}
use Rattle.semantics.specs.Stores as store
use Rattle.semantics.specs.Worked.{trial_classes, trial_rows}
use Rattle.semantics.specs.WorkedRuns.{trial_calls}

-- the trial card before a method is loaded
abbrev pub trial_card : Kind → CardDef
trial_card k = record {
  kind = k;
  store = record { classes = trial_classes; entries = trial_rows; bodies = store.native ∷ store.native ∷ store.native ∷ [] };
  run = idle;
}

-- no call of the list adds a native row
abbrev pub AddsNoNative : List CallDef → Type 0
AddsNoNative calls = (i : ℕ) (e : EntryDef) → At calls i (native e) → ⊥

abbrev pub TrialCardIsReached : Type 0
TrialCardIsReached = (kind : Kind) → after_all number_reply (blank_card kind) tt trial_calls ≡ state (trial_card kind) tt

-- whatever is called on the trial card then, at each moment the host is true to it
abbrev pub NumberHostIsTrue : Type 0
NumberHostIsTrue = (kind : Kind) (calls : List CallDef) → AddsNoNative calls → TrueAtEach number_reply tt (moments number_reply (trial_card kind) tt calls)

-- and at each moment from the blank card on
abbrev pub TrueFromBlank : Type 0
TrueFromBlank = (kind : Kind) (calls : List CallDef) → AddsNoNative calls → TrueAtEach number_reply tt (moments number_reply (blank_card kind) tt (trial_calls ++ calls))
