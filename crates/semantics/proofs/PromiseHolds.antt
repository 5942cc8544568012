-- The promise, over every host and every list of calls.
use Rattle.std.proofs.Common.{List, ◌++◌, ap, ◌∙◌}
use Rattle.semantics.specs.declared.call.Kind.{Kind}
use Rattle.semantics.specs.Calls.{CallDef, State, moments}
use Rattle.semantics.specs.Cards.{CardDef, blank_card}
use Rattle.semantics.specs.Hosts.{Reply}
use Rattle.semantics.specs.Promise.{Promise, PromisedFrom}
use Rattle.semantics.proofs.KeptCalls.{moments_append}
use Rattle.semantics.proofs.Promised as promised
use Rattle.semantics.proofs.TypedCalls.{start_typed}
use Rattle.semantics.proofs.TypedFrames.{Typed, idle_typed}
use Rattle.semantics.proofs.TypedGoes.{go_typed, go_reaches, go_true}
use Rattle.semantics.proofs.TypedGrowth.{typed_grows}

pub promise_holds : {C : Type 0} (kind : Kind) (reply : Reply C) (first : C) (calls : List CallDef) → Promise kind reply first calls
promise_holds {C} kind reply first calls =
    promised.promise_holds C reply first Typed idle_typed start_typed
    (λ s. go_typed s reply) (λ s. go_reaches s reply first) (λ s. go_true s reply first) typed_grows kind calls

pub promised_from : {C : Type 0} (reply : Reply C) (k : CardDef) (c : C) (calls : List CallDef) → PromisedFrom reply k c calls
promised_from {C} reply k c calls first past led = record {
  promise = promise_holds k.kind reply first (past ++ calls);
  here = moments_append reply (blank_card k.kind) first past calls
      ∙ ap (λ (s : State C). moments reply (blank_card k.kind) first past ++ moments reply s.card s.host calls) led;
}
