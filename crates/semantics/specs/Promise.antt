-- What is promised of every list of calls on a card that began blank, over every host.
use Rattle.std.specs.Prelude.{◌≡◌, ℕ, ◌<◌, ◌≤◌, List, [], ◌∷◌, ◌++◌, ◌≢◌, Ok}
use Rattle.semantics.specs.declared.call.Kind.{Kind}
use Rattle.semantics.specs.declared.call.Kind.TheVariants.{Issue}
use Rattle.semantics.specs.declared.call.Response.{Response}
use Rattle.semantics.specs.declared.call.Response.TheVariants as response
use Rattle.semantics.specs.declared.ending.Break.TheVariants as break
use Rattle.semantics.specs.declared.ending.End.{End}
use Rattle.semantics.specs.declared.ending.Ending.TheVariants.{Returned, NoAnswer, FramesFull, BrokenOff, StepsTaken}
use Rattle.semantics.specs.declared.refusal.Refusal.TheVariants.{ArgumentOutOfRange, NoRunInHand}
use Rattle.semantics.specs.declared.value.Cause.{Cause}
use Rattle.semantics.specs.declared.value.Value.{Value}
use Rattle.semantics.specs.Calls.{CallDef, go, Moment, moments, state, after_all}
use Rattle.semantics.specs.Cards.{CardDef, blank_card, with_run, max_steps}
use Rattle.semantics.specs.Endings.{end}
use Rattle.semantics.specs.Entries.{EntryDef}
use Rattle.semantics.specs.FillCall.{TextFillsLawfully}
use Rattle.semantics.specs.Hosts.{QuestionDef, Reply}
use Rattle.semantics.specs.Lists.{At}
use Rattle.semantics.specs.Rows.{FitsEach}
use Rattle.semantics.specs.Runs.{FrameDef, RunDef, idle, in_hand, kind_of, question}
use Rattle.semantics.specs.Stores.{native, Store, entry_at}
use Rattle.semantics.specs.Tree.{Up}

-- the row that the run was started with: that of its first frame
abbrev pub started_row : FrameDef → List FrameDef → ℕ
started_row f [] = f.row
started_row f (g ∷ gs) = started_row g gs

-- the five ways in which a go of at most n steps ends on a run of the row r, and the run after it. A run is broken off only for a host's answer.
pub data Ends (s : Store) (r n : ℕ) : End → RunDef → Type 0 where
  returned : {v : Value} {k q p : ℕ} → 0 < k → k ≤ n → Up s.classes v.class (entry_at s r).result → Ends s r n (end (Returned v) k q p) idle
  no_answer : {cause : Cause} {k q p : ℕ} → 0 < k → k ≤ n → Ends s r n (end (NoAnswer cause) k q p) idle
  frames_full : {k q p : ℕ} → 0 < k → k ≤ n → Ends s r n (end FramesFull k q p) idle
  broken_off : {k q p : ℕ} → 0 < k → k ≤ n → Ends s r n (end (BrokenOff break.AnswerClass) k q p) idle
  steps_taken : {f : FrameDef} {gs : List FrameDef} → started_row f gs ≡ r → Ends s r n (end StepsTaken n f.row f.point) (in_hand f gs)

-- what a go of n steps gives: 3 for a number out of range, else 19 where no run is in hand, else one of the five endings
pub data Goes (k : CardDef) (n : ℕ) : Response → CardDef → Type 0 where
  out_of_range : max_steps < n → Goes k n (response.Refused ArgumentOutOfRange) k
  none_in_hand : n ≤ max_steps → k.run ≡ idle → Goes k n (response.Refused NoRunInHand) k
  ends : {f : FrameDef} {gs : List FrameDef} {e : End} {after : RunDef} → n ≤ max_steps → k.run ≡ in_hand f gs
      → Ends k.store (started_row f gs) n e after → Goes k n (response.Ended e) (with_run k after)

-- a question that a native row on the card puts, on a receiver and arguments that fit
pub data Asks (s : Store) : QuestionDef → Type 0 where
  asks : {r : ℕ} {e : EntryDef} {v : Value} {vs : List Value} → At s.entries r e → At s.bodies r native
      → Up s.classes v.class e.class → FitsEach s.classes kind_of (λ c. c) vs e.arguments → Asks s (question e v vs)

-- the conditions that such questions can bring a host to
pub data Reachable {C : Type 0} (s : Store) (reply : Reply C) (first : C) : C → Type 0 where
  at_first : Reachable s reply first first
  asked : {c : C} {q : QuestionDef} → Reachable s reply first c → Asks s q → Reachable s reply first (reply c q).1

-- a host is true to the card if each value that it answers to such questions, in each such condition, fits the wanted class
abbrev pub TrueTo : {C : Type 0} → Store → Reply C → C → Type 0
TrueTo {C} s reply first =
    (c : C) (q : QuestionDef) (v : Value) → Reachable s reply first c → Asks s q → (reply c q).0 ≡ Ok v → Up s.classes v.class q.wanted

abbrev pub TrueAtEach : {C : Type 0} → Reply C → C → List (Moment C) → Type 0
TrueAtEach {C} reply first ms = (i : ℕ) (m : Moment C) → At ms i m → TrueTo m.card.store reply first

-- at no moment is a run broken off for a host's answer
abbrev pub NoWrongAnswer : {C : Type 0} → List (Moment C) → Type 0
NoWrongAnswer {C} ms = (i : ℕ) (m : Moment C) (k q p : ℕ) → At ms i m → m.outcome.response ≢ response.Ended (end (BrokenOff break.AnswerClass) k q p)

-- every go of the list gives what is said above, and over a host that is true to the card at each moment no answer is outside the wanted class
pub record SoundRuns {C : Type 0} (reply : Reply C) (first : C) (ms : List (Moment C)) : Type 0 where
  pub goes : (i n : ℕ) (m : Moment C) → At ms i m → m.call ≡ go n → Goes m.card n m.outcome.response m.outcome.card
  pub answers : TrueAtEach reply first ms → NoWrongAnswer ms

-- the promise for a list of calls on a blank card of either kind and a host in any first condition
pub record Promise {C : Type 0} (kind : Kind) (reply : Reply C) (first : C) (calls : List CallDef) : Type 0 where
  -- no run on an issue card is broken off for a class, a label or a signature
  pub runs : kind ≡ Issue → SoundRuns reply first (moments reply (blank_card kind) first calls)
  -- after the list filled tables pass and are least, and refusals of filling have their cause
  pub fills : (text : List ℕ) → TextFillsLawfully (after_all reply (blank_card kind) first calls).card.store.classes (after_all reply (blank_card kind) first calls).card.store.entries text

abbrev pub Promised : {C : Type 0} → Reply C → C → Type 0
Promised reply first = (kind : Kind) (calls : List CallDef) → Promise kind reply first calls

-- the promise for calls on a card and a host that earlier calls, from a blank card on, led to: it holds of the earlier calls with these behind them, whose moments are then those of these calls on this card
pub record PromiseBehind {C : Type 0} (reply : Reply C) (k : CardDef) (c : C) (calls : List CallDef) (first : C) (past : List CallDef) : Type 0 where
  pub promise : Promise k.kind reply first (past ++ calls)
  pub here : moments reply (blank_card k.kind) first (past ++ calls) ≡ moments reply (blank_card k.kind) first past ++ moments reply k c calls

abbrev pub PromisedFrom : {C : Type 0} → Reply C → CardDef → C → List CallDef → Type 0
PromisedFrom {C} reply k c calls = (first : C) (past : List CallDef) → after_all reply (blank_card k.kind) first past ≡ state k c → PromiseBehind reply k c calls first past
