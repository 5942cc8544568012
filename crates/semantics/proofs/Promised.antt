-- The promise over every list of calls, where the facts about runs are given.
use Rattle.std.proofs.Common.{◌≡◌, ℕ, List, [], ◌∷◌, map, Ok, Err, Result, sym, refl, ap, ◌∙◌, subst}
use package.native.Mathlib.Omega.{arith}
use Rattle.semantics.specs.declared.call.Kind.{Kind}
use Rattle.semantics.specs.declared.call.Kind.TheVariants.{Issue}
use Rattle.semantics.specs.declared.call.Offered.{Offered}
use Rattle.semantics.specs.declared.call.Response.TheVariants as response
use Rattle.semantics.specs.declared.ending.Break.TheVariants as break
use Rattle.semantics.specs.declared.ending.Ending.TheVariants.{BrokenOff}
use Rattle.semantics.specs.declared.refusal.Refusal.{Refusal}
use Rattle.semantics.specs.declared.refusal.Refusal.TheVariants.{ArgumentOutOfRange}
use Rattle.semantics.specs.declared.value.Value.{Value}
use Rattle.semantics.specs.Calls.{CallDef, class, native, load, start, go, fill, response_of, Acted, act, Moment, moments}
use Rattle.semantics.specs.Cards.{CardDef, blank_card, with_run, with_row, unless_refused, class_answer, native_row, native_answer, loaded_method, load_answer, not_in_hand, start_in_range, taken, first_frame, started_frame, start_answer, gone_by, host_after, fill_answer}
use Rattle.semantics.specs.Endings.{end}
use Rattle.semantics.specs.Entries.{entry_in}
use Rattle.semantics.specs.Form.{must}
use Rattle.semantics.specs.Hosts.{Reply}
use Rattle.semantics.specs.Lists.{At, here, there}
use Rattle.semantics.specs.NewRows.{classes_present}
use Rattle.semantics.specs.Promise.{started_row, Ends, Goes, out_of_range, none_in_hand, ends, Reachable, at_first, TrueTo, SoundRuns, Promise}
use Rattle.semantics.specs.Runs.{FrameDef, RunDef, idle, in_hand, Gone, go_from, onward, kind_of}
use Rattle.semantics.specs.Stores.{Store, coded, code_in}
use Rattle.semantics.specs.Stores as stores
use Rattle.semantics.proofs.CardFacts.{Checked, Grows}
use Rattle.semantics.proofs.FillCalls.{text_fills_lawfully}
use Rattle.semantics.proofs.KeptCalls.{unless_same, act_kind, act_grows, act_checked, fills_after}
use Rattle.semantics.proofs.KeptRows.{blank_checked}
use Rattle.semantics.proofs.LineTexts.{from_so}
use Rattle.semantics.proofs.PromisedRuns.{reachable_still, Gives, gives, never_ended}
use Rattle.semantics.proofs.PromisedRuns as way

module _ (C : Type 0) (reply : Reply C) (first : C)
    (Typed : Store → RunDef → Type 0)
    (idle_typed : (s : Store) → Typed s idle)
    (start_typed : (s : Store) (v : Value) (m : ℕ) (vs : List Value) (f : FrameDef) → Checked s → first_frame s v m vs ≡ Ok f → Typed s (in_hand f []))
    (go_Typed : (s : Store) (f : FrameDef) (gs : List FrameDef) (c : C) (n : ℕ) → Checked s → Typed s (in_hand f gs)
    → Ends s (started_row f gs) n (go_from s reply n 0 (onward f gs c)).end (go_from s reply n 0 (onward f gs c)).run × Typed s (go_from s reply n 0 (onward f gs c)).run)
    (go_reaches : (s : Store) (f : FrameDef) (gs : List FrameDef) (c : C) (n : ℕ) → Checked s → Typed s (in_hand f gs) → Reachable s reply first c
    → Reachable s reply first (go_from s reply n 0 (onward f gs c)).host)
    (go_true : (s : Store) (f : FrameDef) (gs : List FrameDef) (c : C) (n : ℕ) → Checked s → Typed s (in_hand f gs) → Reachable s reply first c → TrueTo s reply first
    → (k q p : ℕ) → (go_from s reply n 0 (onward f gs c)).end ≡ end (BrokenOff break.AnswerClass) k q p → ⊥)
    (typed_grows : (s t : Store) (r : RunDef) → Checked s → Checked t → Grows s t → Typed s r → Typed t r) where
  -- what holds of an issue card and its host at every moment
  pub record Sound (k : CardDef) (c : C) : Type 0 where
    pub issue : k.kind ≡ Issue
    pub checked : Checked k.store
    pub typed : Typed k.store k.run
    pub reached : Reachable k.store reply first c

  -- a call that leaves run and host as they were
  grown : (k : CardDef) (c : C) (x : CallDef) → Sound k c → (act reply k c x).card.run ≡ k.run → (act reply k c x).host ≡ c → Sound (act reply k c x).card (act reply k c x).host
  grown k c x h same-run same-host =
      let after : Checked (act reply k c x).card.store = act_checked reply k c x h.issue h.checked in
      let g : Grows k.store (act reply k c x).card.store = act_grows reply k c x h.checked.founded in
      record {
        issue = act_kind reply k c x ∙ h.issue;
        checked = after;
        typed = subst (Typed (act reply k c x).card.store) (sym same-run) (typed_grows k.store (act reply k c x).card.store k.run h.checked after g h.typed);
        reached = subst (Reachable (act reply k c x).card.store reply first) (sym same-host) (reachable_still g h.checked.founded.tree h.reached);
      }

  -- another run on the same classes and rows
  rerun : (k : CardDef) (c d : C) (r : RunDef) → Sound k c → Typed k.store r → Reachable k.store reply first d → Sound (with_run k r) d
  rerun k c d r h t reached = record { issue = h.issue; checked = h.checked; typed = t; reached = reached }

  start_sound : (k : CardDef) (c : C) (v : Offered) (m : ℕ) (vs : List Offered) → Sound k c → (r : Result FrameDef Refusal) → started_frame k v m vs ≡ r → Sound (unless_refused k (λ f. with_run k (in_hand f [])) r) c
  start_sound k c v m vs h (Ok f) e =
      let a = from_so (not_in_hand k.run) _ f e in
      let b = from_so (must (start_in_range v m vs) ArgumentOutOfRange) _ f a.2 in
      let d = from_so (classes_present k.store.classes 0 (map kind_of (map taken (v ∷ vs)))) _ f b.2 in
      rerun k c c (in_hand f []) h (start_typed k.store (taken v) m (map taken vs) f h.checked d.2) h.reached
  start_sound k c v m vs h (Err e) is = h

  -- a go
  module _ (k : CardDef) (c : C) (n : ℕ) (h : Sound k c) where
    in_hand_lem : (f : FrameDef) (gs : List FrameDef) → k.run ≡ in_hand f gs → Typed k.store (in_hand f gs)
    in_hand_lem f gs is = subst (Typed k.store) is h.typed

    go_sound : (r : Result (Gone C) Refusal) → Gives k reply n c r → Sound (unless_refused k (λ g. with_run k g.run) r) (host_after c r)
    go_sound _ (way.out_of_range l) = h
    go_sound _ (way.none_in_hand l is) = h
    go_sound _ (way.steps f gs l is) =
        rerun k c (go_from k.store reply n 0 (onward f gs c)).host (go_from k.store reply n 0 (onward f gs c)).run h
        (go_Typed k.store f gs c n h.checked (in_hand_lem f gs is)).1 (go_reaches k.store f gs c n h.checked (in_hand_lem f gs is) h.reached)

    go_goes : (r : Result (Gone C) Refusal) → Gives k reply n c r → Goes k n (response_of (λ g. response.Ended g.end) r) (unless_refused k (λ g. with_run k g.run) r)
    go_goes _ (way.out_of_range l) = out_of_range l
    go_goes _ (way.none_in_hand l is) = none_in_hand l is
    go_goes _ (way.steps f gs l is) = ends l is (go_Typed k.store f gs c n h.checked (in_hand_lem f gs is)).0

    go_right : TrueTo k.store reply first → (i q p : ℕ) (r : Result (Gone C) Refusal) → Gives k reply n c r
        → response_of (λ g. response.Ended g.end) r ≡ response.Ended (end (BrokenOff break.AnswerClass) i q p) → ⊥
    go_right true_to i q p _ (way.out_of_range l) e = let z : ◌≡◌ {A = ℕ} 0 1 = cc in absurd (omega arith)
    go_right true_to i q p _ (way.none_in_hand l is) e = let z : ◌≡◌ {A = ℕ} 0 1 = cc in absurd (omega arith)
    go_right true_to i q p _ (way.steps f gs l is) e = go_true k.store f gs c n h.checked (in_hand_lem f gs is) h.reached true_to i q p cc

  -- every call
  pub act_sound : (k : CardDef) (c : C) (x : CallDef) → Sound k c → Sound (act reply k c x).card (act reply k c x).host
  act_sound k c (class p) h = grown k c (class p) h refl refl
  act_sound k c (native e) h = grown k c (native e) h (unless_same (λ j. j.run) k (λ x. with_row k x stores.native) (λ x. refl) (native_row k e)) refl
  act_sound k c (load t) h = grown k c (load t) h (unless_same (λ j. j.run) k (λ m. with_row k (entry_in m) (coded (code_in m))) (λ m. refl) (loaded_method k t)) refl
  act_sound k c (start v m vs) h = start_sound k c v m vs h (started_frame k v m vs) refl
  act_sound k c (go n) h = go_sound k c n h (gone_by k reply n c) (gives k reply n c)
  act_sound k c (fill t room) h = h

  act_right : (k : CardDef) (c : C) (x : CallDef) → Sound k c → TrueTo k.store reply first → (i q p : ℕ)
      → (act reply k c x).response ≡ response.Ended (end (BrokenOff break.AnswerClass) i q p) → ⊥
  act_right k c (class p) h t i q r e = never_ended response.Class _ (λ x d. let z : ◌≡◌ {A = ℕ} 0 1 = cc in absurd (omega arith)) (class_answer k p) e
  act_right k c (native s) h t i q r e = never_ended response.Row _ (λ x d. let z : ◌≡◌ {A = ℕ} 0 1 = cc in absurd (omega arith)) (native_answer k s) e
  act_right k c (load s) h t i q r e = never_ended response.Row _ (λ x d. let z : ◌≡◌ {A = ℕ} 0 1 = cc in absurd (omega arith)) (load_answer k s) e
  act_right k c (start v m vs) h t i q r e = never_ended (λ _. response.Started) _ (λ x d. let z : ◌≡◌ {A = ℕ} 0 1 = cc in absurd (omega arith)) (start_answer k v m vs) e
  act_right k c (go n) h t i q r e = go_right k c n h t i q r (gone_by k reply n c) (gives k reply n c) e
  act_right k c (fill s room) h t i q r e = never_ended (λ x. response.Filled x.0 x.1) _ (λ x d. let z : ◌≡◌ {A = ℕ} 0 1 = cc in absurd (omega arith)) (fill_answer k s room) e

  -- every moment
  pub moment_sound : (k : CardDef) (c : C) (xs : List CallDef) → Sound k c → {i : ℕ} {m : Moment C} → At (moments reply k c xs) i m
      → Sound m.card m.host × (m.outcome ≡ act reply m.card m.host m.call)
  moment_sound k c [] h a = elim a [ ]
  moment_sound k c (x ∷ xs) h here = (h, refl)
  moment_sound k c (x ∷ xs) h (there a) = moment_sound (act reply k c x).card (act reply k c x).host xs (act_sound k c x h) a

  pub all_sound : (k : CardDef) (c : C) (xs : List CallDef) → Sound k c → SoundRuns reply first (moments reply k c xs)
  all_sound k c xs h = record {
    goes = λ i n m a is. (let s = moment_sound k c xs h a in
        subst (λ (o : Acted C). Goes m.card n o.response o.card) (sym (s.1 ∙ ap (act reply m.card m.host) is)) (go_goes m.card m.host n s.0 (gone_by m.card reply n m.host) (gives m.card reply n m.host)));
    answers = λ true_to i m j q p a e. (let s = moment_sound k c xs h a in
        act_right m.card m.host m.call s.0 (true_to i m a) j q p (ap (λ (o : Acted C). o.response) (sym s.1) ∙ e));
  }

  blank_sound : (kind : Kind) → kind ≡ Issue → Sound (blank_card kind) first
  blank_sound kind is = record { issue = is; checked = blank_checked kind; typed = idle_typed (blank_card kind).store; reached = at_first }

  pub promise_holds : (kind : Kind) (calls : List CallDef) → Promise kind reply first calls
  promise_holds kind calls = record {
    runs = λ is. all_sound (blank_card kind) first calls (blank_sound kind is);
    fills = λ text. (let f = fills_after kind reply first calls in text_fills_lawfully _ _ text f.tree f.known f.agree);
  }
