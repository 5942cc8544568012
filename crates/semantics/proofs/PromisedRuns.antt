-- Conditions of a host on a card that grows, and the ways of a go.
use Rattle.std.proofs.Common.{◌≡◌, ℕ, ◌<◌, ◌≤◌, Bool, true, false, leb, List, Ok, Err, Result, sym, refl, subst}
use package.native.Mathlib.Omega.{arith}
use Rattle.std.proofs.lemmas.Bool.{leb-true, leb-false}
use Rattle.semantics.specs.declared.call.Response.{Response}
use Rattle.semantics.specs.declared.call.Response.TheVariants as response
use Rattle.semantics.specs.declared.ending.End.{End}
use Rattle.semantics.specs.declared.refusal.Refusal.{Refusal}
use Rattle.semantics.specs.declared.refusal.Refusal.TheVariants.{ArgumentOutOfRange, NoRunInHand}
use Rattle.semantics.specs.declared.value.Value.{Value}
use Rattle.semantics.specs.Calls.{response_of}
use Rattle.semantics.specs.Cards.{CardDef, max_steps, go_run, gone_by}
use Rattle.semantics.specs.Entries.{EntryDef}
use Rattle.semantics.specs.Form.{must}
use Rattle.semantics.specs.Hosts.{QuestionDef, Reply}
use Rattle.semantics.specs.Lists.{At}
use Rattle.semantics.specs.Promise.{Asks, asks, Reachable, at_first, asked}
use Rattle.semantics.specs.Reading.{so}
use Rattle.semantics.specs.Rows.{FitsEach, none, cell}
use Rattle.semantics.specs.Runs.{RunDef, idle, in_hand, FrameDef, Gone, go_from, onward, kind_of}
use Rattle.semantics.specs.Stores.{BodyDef, Store}
use Rattle.semantics.specs.Tree.{Tree, Up}
use Rattle.semantics.proofs.CardFacts.{Grows}
use Rattle.semantics.proofs.ItemPlaces.{at_front}
use Rattle.semantics.proofs.Lookups.{up_grown}

-- what a card grown from another still has
module _ {s t : Store} (g : Grows s t) (tree : Tree s.classes) where
  pub up_still : {a b : ℕ} → Up s.classes a b → Up t.classes a b
  up_still {a} {b} u = subst (λ (ps : List ℕ). Up ps a b) (sym g.classes) (up_grown tree g.more_classes u)

  pub entry_still : {r : ℕ} {e : EntryDef} → At s.entries r e → At t.entries r e
  entry_still {r} {e} a = subst (λ (es : List EntryDef). At es r e) (sym g.entries) (at_front g.more_entries a)

  pub body_still : {r : ℕ} {b : BodyDef} → At s.bodies r b → At t.bodies r b
  body_still {r} {b} a = subst (λ (bs : List BodyDef). At bs r b) (sym g.bodies) (at_front g.more_bodies a)

  pub fits_still : {vs : List Value} {cs : List ℕ} → FitsEach s.classes kind_of (λ c. c) vs cs → FitsEach t.classes kind_of (λ c. c) vs cs
  fits_still none = none
  fits_still (cell u f) = cell (up_still u) (fits_still f)

  pub asks_still : {q : QuestionDef} → Asks s q → Asks t q
  asks_still (asks a b u f) = asks (entry_still a) (body_still b) (up_still u) (fits_still f)

  pub reachable_still : {C : Type 0} {reply : Reply C} {first c : C} → Reachable s reply first c → Reachable t reply first c
  reachable_still at_first = at_first
  reachable_still (asked r a) = asked (reachable_still r) (asks_still a)

-- the three ways of a go: a number out of range, no run in hand, and steps
pub data Gives {C : Type 0} (k : CardDef) (reply : Reply C) (n : ℕ) (c : C) : Result (Gone C) Refusal → Type 0 where
  out_of_range : max_steps < n → Gives k reply n c (Err ArgumentOutOfRange)
  none_in_hand : n ≤ max_steps → k.run ≡ idle → Gives k reply n c (Err NoRunInHand)
  steps : (f : FrameDef) (gs : List FrameDef) → n ≤ max_steps → k.run ≡ in_hand f gs → Gives k reply n c (Ok (go_from k.store reply n 0 (onward f gs c)))

pub gives : {C : Type 0} (k : CardDef) (reply : Reply C) (n : ℕ) (c : C) → Gives k reply n c (gone_by k reply n c)
gives {C} k reply n c = way (leb n max_steps) refl k.run refl
  where
    way : (b : Bool) → leb n max_steps ≡ b → (r : RunDef) → k.run ≡ r → Gives k reply n c (so (must b ArgumentOutOfRange) (λ _. go_run k.store reply n c r))
    way false e r is = out_of_range (leb-false n max_steps e)
    way true e idle is = none_in_hand (leb-true n max_steps e) is
    way true e (in_hand f gs) is = steps f gs (leb-true n max_steps e) is

-- only a go that is not refused tells an end
pub never_ended : {X : Type 0} (f : X → Response) (e : End) → ((x : X) → f x ≡ response.Ended e → ⊥) → (r : Result X Refusal) → response_of f r ≡ response.Ended e → ⊥
never_ended f e other (Ok x) q = other x q
never_ended f e other (Err d) q = let z : ◌≡◌ {A = ℕ} 0 1 = cc in absurd (omega arith)
