-- The number host is true to a card whose native rows are those of the trial card.
use Rattle.std.proofs.Common.{◌≡◌, ℕ, suc, ◌+◌, ◌<◌, Bool, true, false, cond, ◌||◌, eqb, List, [], ◌∷◌, ◌++◌, length, ◌-ℤ◌, Ok, Err, Result, sym, refl, ap, ◌∙◌, subst, ⊎_elim, arith}
use lib.Signed.{le_z}
use Rattle.std.proofs.lemmas.List.{length_push}
use Rattle.std.proofs.lemmas.Bool.{false≢true}
use Rattle.semantics.specs.declared.refusal.Refusal.{Refusal}
use Rattle.semantics.specs.declared.refusal.Refusal.TheVariants.{ArgumentOutOfRange}
use Rattle.semantics.specs.declared.value.Cause.{Cause}
use Rattle.semantics.specs.declared.value.Cause.TheVariants.{WantedClass, ArgumentCount, Range}
use Rattle.semantics.specs.declared.value.Value.{Value}
use Rattle.semantics.specs.Calls as calls
use Rattle.semantics.specs.Calls.{CallDef, class, load, start, go, fill, moments, act}
use Rattle.semantics.specs.Cards.{CardDef, blank_card, unless_refused, with_row, with_run, signature_in_range, native_row, loaded_method, started_frame, gone_by, class_answer}
use Rattle.semantics.specs.Entries.{EntryDef, entry_in}
use Rattle.semantics.specs.Form.{must}
use Rattle.semantics.specs.Hosts.{QuestionDef, an_int, a_bool, shaped, argument_of, in_range, ranged, number_answer, number_reply, Answer}
use Rattle.semantics.specs.Lists.{At, here, there}
use Rattle.semantics.specs.Methods.{Each, MethodDef}
use Rattle.semantics.specs.NewRows.{entry_classes, entry_rules, room_for}
use Rattle.semantics.specs.Promise.{asks, TrueTo, TrueAtEach}
use Rattle.semantics.specs.Runs.{RunDef, in_hand, question}
use Rattle.semantics.specs.Stores.{BodyDef, coded, Store, code_in, points_of}
use Rattle.semantics.specs.Stores as store
use Rattle.semantics.specs.Tree as tree
use Rattle.semantics.specs.Tree.{Up, after, line_in, line, depth, fits}
use Rattle.semantics.specs.TrialHost.{trial_card, AddsNoNative, TrialCardIsReached, NumberHostIsTrue, TrueFromBlank}
use Rattle.semantics.specs.Worked.{trial_rows}
use Rattle.semantics.specs.WorkedRuns.{trial_calls}
use Rattle.semantics.proofs.ItemPlaces.{at_within, at_push}
use Rattle.semantics.proofs.LineTexts.{from_so}
use Rattle.semantics.proofs.OnlyTexts.{same_ok}

-- a row of the trial card
abbrev OfTrial : EntryDef → Type 0
OfTrial e = (j : ℕ) × At trial_rows j e

-- Bool and Int are present, each row has a body, and its native rows are of the trial card
record Numbers (s : Store) : Type 0 where
  some : 2 < length s.classes
  paired : length s.bodies ≡ length s.entries
  natives : (r : ℕ) (e : EntryDef) → At s.entries r e → At s.bodies r store.native → OfTrial e

-- a value that is answered past a test was answered
given : (b : Bool) (a : Answer) (k : Cause) (v : Value) → cond b a (Err k) ≡ Ok v → a ≡ Ok v
given true a k v e = e
given false a k v e = cc e

given_shaped : (q : QuestionDef) (n c : ℕ) (a : Answer) (v : Value) → shaped q n c a ≡ Ok v → a ≡ Ok v
given_shaped q n c a v e = given (eqb q.wanted 0 || eqb q.wanted c) a WantedClass v (given (eqb (length q.arguments) n) _ ArgumentCount v e)

abbrev class_of : Answer → ℕ
class_of (Ok v) = v.class
class_of (Err k) = 0

-- a value that is answered to a question of such a row has the wanted class
wanted_class : (e : EntryDef) (x : Value) (vs : List Value) (v : Value) → OfTrial e → number_answer (question e x vs) ≡ Ok v → v.class ≡ e.result
wanted_class e x vs v (j, here) h = ap class_of (sym (given_shaped (question e x vs) 0 2 (an_int x.number) v h))
wanted_class e x vs v (j, there here) h =
    let z = x.number -ℤ argument_of (question e x vs) in
    ap class_of (sym (given (in_range z) (an_int z) Range v (given_shaped (question e x vs) 1 2 (ranged z) v h)))
wanted_class e x vs v (j, there (there here)) h = ap class_of (sym (given_shaped (question e x vs) 1 1 (a_bool (le_z x.number (argument_of (question e x vs)))) v h))
wanted_class e x vs v (j, there (there (there a))) h = elim a [ ]

-- the results of these rows are present classes
below_three : (e : EntryDef) → OfTrial e → e.result < 3
below_three e (j, here) = omega arith
below_three e (j, there here) = omega arith
below_three e (j, there (there here)) = omega arith
below_three e (j, there (there (there a))) = elim a [ ]

true_to : (s : Store) → Numbers s → TrueTo s number_reply tt
true_to s n c q v reached (asks {r} {e} {v = x} {vs} row body up fit) h =
    let o = n.natives r e row body in
    let l = below_three e o in
    let some : 2 < length s.classes = n.some in
    let w : v.class ≡ e.result = wanted_class e x vs v o h in
    subst (λ (a : ℕ). Up s.classes a e.result) (sym w) (tree.here (omega arith))

-- the calls that keep this: a native row that is added is one of the trial card's
abbrev Keeps : CallDef → Type 0
Keeps (class p) = Unit {0}
Keeps (calls.native e) = OfTrial e
Keeps (load t) = Unit {0}
Keeps (start v m vs) = Unit {0}
Keeps (go n) = Unit {0}
Keeps (fill t room) = Unit {0}

classes_kept : (s : Store) (p : ℕ) (r : Result ℕ Refusal) → Numbers s → 2 < length (after r s.classes p)
classes_kept s p (Ok k) n = let l : 2 < length s.classes = n.some in omega (arith, length_push s.classes p)
classes_kept s p (Err e) n = n.some

row_kept : (k : CardDef) (e : EntryDef) (b : BodyDef) → Numbers k.store → (b ≡ store.native → OfTrial e) → Numbers (with_row k e b).store
row_kept k e b n new = record {
  some = n.some;
  paired = length_push k.store.bodies b ∙ ap (λ x. x + 1) n.paired ∙ sym (length_push k.store.entries e);
  natives = λ r f row body. ⊎_elim
      (λ old. ⊎_elim
      (λ same. n.natives r f old same)
      (λ (last : (r ≡ length k.store.bodies) × (store.native ≡ b)). let w : r < length k.store.entries = at_within old in absurd (omega (arith, last.0, n.paired)))
      (at_push k.store.bodies b body))
      (λ (last : (r ≡ length k.store.entries) × (f ≡ e)). ⊎_elim
      (λ same. let w : r < length k.store.bodies = at_within same in absurd (omega (arith, last.0, n.paired)))
      (λ (end : (r ≡ length k.store.bodies) × (store.native ≡ b)). subst OfTrial (sym last.1) (new (sym end.1)))
      (at_push k.store.bodies b body))
      (at_push k.store.entries e row);
}

native_kept : (k : CardDef) (r : Result EntryDef Refusal) → Numbers k.store → ((x : EntryDef) → r ≡ Ok x → OfTrial x) → Numbers (unless_refused k (λ x. with_row k x store.native) r).store
native_kept k (Ok x) n new = row_kept k x store.native n (λ _. new x refl)
native_kept k (Err f) n new = n

load_kept : (k : CardDef) (r : Result MethodDef Refusal) → Numbers k.store → Numbers (unless_refused k (λ m. with_row k (entry_in m) (coded (code_in m))) r).store
load_kept k (Ok m) n = row_kept k (entry_in m) (coded (code_in m)) n (λ e. absurd (false≢true (cc e)))
load_kept k (Err f) n = n

run_kept : {X : Type 0} (k : CardDef) (f : X → RunDef) (r : Result X Refusal) → Numbers k.store → Numbers (unless_refused k (λ x. with_run k (f x)) r).store
run_kept k f (Ok x) n = n
run_kept k f (Err e) n = n

-- the row that is let in is the one that was handed over
let_in : (k : CardDef) (e x : EntryDef) → native_row k e ≡ Ok x → x ≡ e
let_in k e x h =
    let a = from_so (must (signature_in_range e) ArgumentOutOfRange) _ x h in
    let b = from_so (entry_rules k.store.classes k.store.entries e (entry_classes e)) _ x a.2 in
    sym (same_ok (from_so (room_for (length k.store.entries) (points_of k.store.bodies) 0) _ x b.2).2)

act_keeps : (k : CardDef) (x : CallDef) → Keeps x → Numbers k.store → Numbers (act number_reply k tt x).card.store
act_keeps k (class p) w n = record { some = classes_kept k.store p (class_answer k p) n; paired = n.paired; natives = n.natives }
act_keeps k (calls.native e) w n = native_kept k (native_row k e) n (λ x h. subst OfTrial (sym (let_in k e x h)) w)
act_keeps k (load t) w n = load_kept k (loaded_method k t) n
act_keeps k (start v m vs) w n = run_kept k (λ f. in_hand f []) (started_frame k v m vs) n
act_keeps k (go m) w n = run_kept k (λ g. g.run) (gone_by k number_reply m tt) n
act_keeps k (fill t room) w n = n

true_at_each : (k : CardDef) (xs : List CallDef) → Each Keeps xs → Numbers k.store → TrueAtEach number_reply tt (moments number_reply k tt xs)
true_at_each k [] w n i m at = elim at [ ]
true_at_each k (x ∷ xs) w n i m here = true_to k.store n
true_at_each k (x ∷ xs) w n i m (there at) = true_at_each (act number_reply k tt x).card xs w.1 (act_keeps k x w.0 n) _ m at

-- a list without native calls keeps it
each_keeps : (xs : List CallDef) → AddsNoNative xs → Each Keeps xs
each_keeps [] h = tt
each_keeps (class p ∷ xs) h = (tt, each_keeps xs (λ i e a. h (suc i) e (there a)))
each_keeps (calls.native e ∷ xs) h = absurd (h 0 e here)
each_keeps (load t ∷ xs) h = (tt, each_keeps xs (λ i e a. h (suc i) e (there a)))
each_keeps (start v m vs ∷ xs) h = (tt, each_keeps xs (λ i e a. h (suc i) e (there a)))
each_keeps (go n ∷ xs) h = (tt, each_keeps xs (λ i e a. h (suc i) e (there a)))
each_keeps (fill t room ∷ xs) h = (tt, each_keeps xs (λ i e a. h (suc i) e (there a)))

pub trial_card_is_reached : TrialCardIsReached
unfolding depth fits line line_in
trial_card_is_reached kind = refl

pub number_host_is_true : NumberHostIsTrue
number_host_is_true kind xs h = true_at_each (trial_card kind) xs (each_keeps xs h) (record {
  some = omega arith;
  paired = refl;
  natives = λ r e row body. (r, row);
})

pub true_from_blank : TrueFromBlank
true_from_blank kind xs h =
    true_at_each (blank_card kind) (trial_calls ++ xs) (tt, ((0, here), ((1, there here), ((2, there (there here)), each_keeps xs h))))
    (record { some = omega arith; paired = refl; natives = λ r e row body. elim row [ ] })
