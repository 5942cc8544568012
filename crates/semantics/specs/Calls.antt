-- Lists of calls on one card and one host, as lists of moments.
use Rattle.std.specs.Prelude.{ℕ, List, [], ◌∷◌, Ok, Err, Result}
use Rattle.semantics.specs.declared.call.Offered.{Offered}
use Rattle.semantics.specs.declared.call.Response.{Response}
use Rattle.semantics.specs.declared.call.Response.TheVariants as response
use Rattle.semantics.specs.declared.refusal.Refusal.{Refusal}
use Rattle.semantics.specs.Cards.{CardDef, class_answer, class_after, native_answer, native_after, load_answer, load_after, start_answer, start_after, gone_by, go_after, host_after, fill_answer}
use Rattle.semantics.specs.Entries.{EntryDef}
use Rattle.semantics.specs.Hosts.{Reply}

-- the calls of a list: numbers, texts and the room of a lent buffer are each call's own
pub data CallDef : Type 0 where
  class : ℕ → CallDef
  native : EntryDef → CallDef
  load : List ℕ → CallDef
  start : Offered → ℕ → List Offered → CallDef
  go : ℕ → CallDef
  fill : List ℕ → ℕ → CallDef

abbrev pub response_of : {X : Type 0} → (X → Response) → Result X Refusal → Response
response_of f (Ok x) = f x
response_of f (Err e) = response.Refused e

-- what a call answers, the card after it, and the condition that it leaves the host in
pub record Acted (C : Type 0) : Type 0 where
  pub response : Response
  pub card : CardDef
  pub host : C

abbrev pub acted : {C : Type 0} → Response → CardDef → C → Acted C
acted r k c = record { response = r; card = k; host = c }

abbrev pub act : {C : Type 0} → Reply C → CardDef → C → CallDef → Acted C
act reply k c (class p) = acted (response_of response.Class (class_answer k p)) (class_after k p) c
act reply k c (native e) = acted (response_of response.Row (native_answer k e)) (native_after k e) c
act reply k c (load t) = acted (response_of response.Row (load_answer k t)) (load_after k t) c
act reply k c (start v m vs) = acted (response_of (λ _. response.Started) (start_answer k v m vs)) (start_after k v m vs) c
act reply k c (go n) = acted (response_of (λ g. response.Ended g.end) (gone_by k reply n c)) (go_after k reply n c) (host_after c (gone_by k reply n c))
act reply k c (fill t room) = acted (response_of (λ x. response.Filled x.0 x.1) (fill_answer k t room)) k c

-- a list of calls, as the list of its moments: card and condition before each call, the call and its answer
pub record Moment (C : Type 0) : Type 0 where
  pub card : CardDef
  pub host : C
  pub call : CallDef
  pub outcome : Acted C

abbrev pub moment_of : {C : Type 0} → Reply C → CardDef → C → CallDef → Moment C
moment_of reply k c x = record { card = k; host = c; call = x; outcome = act reply k c x }

abbrev pub moments : {C : Type 0} → Reply C → CardDef → C → List CallDef → List (Moment C)
moments reply k c [] = []
moments reply k c (x ∷ xs) = moment_of reply k c x ∷ moments reply (act reply k c x).card (act reply k c x).host xs

-- card and condition after a list of calls
pub record State (C : Type 0) : Type 0 where
  pub card : CardDef
  pub host : C

abbrev pub state : {C : Type 0} → CardDef → C → State C
state k c = record { card = k; host = c }

abbrev pub after_all : {C : Type 0} → Reply C → CardDef → C → List CallDef → State C
after_all reply k c [] = state k c
after_all reply k c (x ∷ xs) = after_all reply (act reply k c x).card (act reply k c x).host xs
