-- Every call keeps the laws of a card, and its kind.
use Rattle.std.proofs.Common.{◌≡◌, ℕ, ◌+◌, ◌<◌, ltb, List, [], ◌∷◌, ◌++◌, length, Ok, Err, Result, sym, refl, ap, ◌∙◌, subst}
use Rattle.std.proofs.lemmas.Bool.{ltb-true}
use Rattle.semantics.specs.declared.call.Kind.{Kind}
use Rattle.semantics.specs.declared.call.Kind.TheVariants.{Issue}
use Rattle.semantics.specs.declared.refusal.Capacity.TheVariants.{Rows}
use Rattle.semantics.specs.declared.refusal.Refusal.{Refusal}
use Rattle.semantics.specs.declared.refusal.Refusal.TheVariants.{ArgumentOutOfRange, ClassAbsent, Full}
use Rattle.semantics.specs.Calls.{CallDef, class, native, load, start, go, fill, act, Moment, moment_of, moments, after_all}
use Rattle.semantics.specs.Cards.{CardDef, blank_card, with_run, with_classes, with_row, unless_refused, class_answer, signature_in_range, native_row, checked_on, loaded_method, started_frame, gone_by}
use Rattle.semantics.specs.Entries.{EntryDef, entry_in}
use Rattle.semantics.specs.Form.{must, form_of}
use Rattle.semantics.specs.Hosts.{Reply}
use Rattle.semantics.specs.Methods.{MethodDef}
use Rattle.semantics.specs.NewRows.{max_rows, classes_present, entry_classes, row_classes, entry_rules, room_for}
use Rattle.semantics.specs.Reading.{method_in}
use Rattle.semantics.specs.Runs.{in_hand}
use Rattle.semantics.specs.Stores.{coded, code_in, points_of}
use Rattle.semantics.specs.Stores as stores
use Rattle.semantics.specs.Tree.{Tree, present, after}
use Rattle.semantics.proofs.CardFacts.{Founded, Checked, Grows}
use Rattle.semantics.proofs.FormLaws.{form_exact}
use Rattle.semantics.proofs.KeptRows.{Fit, Change, change_grows, founded_kept, checked_kept, blank_founded, blank_checked}
use Rattle.semantics.proofs.KeptRows as change
use Rattle.semantics.proofs.LineTexts.{so_ok, from_so}
use Rattle.semantics.proofs.OnlyTexts.{same_ok}
use Rattle.semantics.proofs.Testing.{must_ok}
use Rattle.semantics.proofs.TextLaws.{read_was_written}
use Rattle.semantics.proofs.TreeGrowth.{added, tree_push}

-- what a call leaves as it was, whether it is refused or not
pub unless_same : {X Y : Type 0} (view : CardDef → Y) (k : CardDef) (f : X → CardDef) → ((x : X) → view (f x) ≡ view k) → (r : Result X Refusal) → view (unless_refused k f r) ≡ view k
unless_same view k f h (Ok x) = h x
unless_same view k f h (Err e) = refl

-- the first classes of a list are present where all are
present_front : (ps : List ℕ) (k : ℕ) (cs ds : List ℕ) → classes_present ps k (cs ++ ds) ≡ Ok tt → classes_present ps k cs ≡ Ok tt
present_front ps k [] ds e = refl
present_front ps k (c ∷ cs) ds e = let s = from_so (must (present ps c) (ClassAbsent k)) _ tt e in so_ok _ s.1 ∙ present_front ps (k + 1) cs ds s.2

rules_front : (ps : List ℕ) (es : List EntryDef) (e : EntryDef) (cs ds : List ℕ) → entry_rules ps es e (cs ++ ds) ≡ Ok tt → entry_rules ps es e cs ≡ Ok tt
rules_front ps es e cs ds h = let s = from_so (classes_present ps 0 (cs ++ ds)) _ tt h in so_ok _ (present_front ps 0 cs ds s.1) ∙ s.2

room_left : (rows points more : ℕ) → room_for rows points more ≡ Ok tt → rows < max_rows
room_left rows points more e = ltb-true rows max_rows (must_ok (ltb rows max_rows) (Full Rows) (from_so (must (ltb rows max_rows) (Full Rows)) _ tt e).1)

-- class, native and load
module _ (k : CardDef) where
  class_changes : (p : ℕ) → Tree k.store.classes → (r : Result ℕ Refusal) → class_answer k p ≡ r → Change k.kind k.store (with_classes k (after r k.store.classes p)).store
  class_changes p t (Ok n) e = let a = added k.store.classes p n e in change.class p (tree_push k.store.classes t p a.under a.room a.low)
  class_changes p t (Err d) e = change.none

  native_changes : (e : EntryDef) (r : Result EntryDef Refusal) → native_row k e ≡ r → Change k.kind k.store (unless_refused k (λ x. with_row k x stores.native) r).store
  native_changes e (Ok x) h =
      let a = from_so (must (signature_in_range e) ArgumentOutOfRange) _ x h in
      let b = from_so (entry_rules k.store.classes k.store.entries e (entry_classes e)) _ x a.2 in
      let c = from_so (room_for (length k.store.entries) (points_of k.store.bodies) 0) _ x b.2 in
      subst (λ (f : EntryDef). Change k.kind k.store (with_row k f stores.native).store) (same_ok c.2) (change.row e stores.native b.1 (room_left _ _ _ c.1) tt)
  native_changes e (Err d) h = change.none

  load_changes : (t : List ℕ) (r : Result MethodDef Refusal) → loaded_method k t ≡ r → Change k.kind k.store (unless_refused k (λ m. with_row k (entry_in m) (coded (code_in m))) r).store
  load_changes t (Ok x) h =
      let ps : List ℕ = k.store.classes in
      let es : List EntryDef = k.store.entries in
      let a = from_so (method_in t) _ x h in
      let m : MethodDef = a.0 in
      let cs : List ℕ = entry_classes (entry_in m) in
      let b = from_so (form_of m) _ x a.2 in
      let c = from_so (entry_rules ps es (entry_in m) (cs ++ row_classes m.labels)) _ x b.2 in
      let d = from_so (room_for (length es) (points_of k.store.bodies) (length m.code)) _ x c.2 in
      let e = from_so (checked_on k.kind ps es m) _ x d.2 in
      let fit : Fit k.kind k.store m = record {
        formed = (form_exact m).0 b.1;
        ranged = (read_was_written t m a.1).1;
        passes = λ is. subst (λ (z : Kind). checked_on z ps es m ≡ Ok tt) is e.1;
      } in
      subst (λ (f : MethodDef). Change k.kind k.store (with_row k (entry_in f) (coded (code_in f))).store) (same_ok e.2)
      (change.row (entry_in m) (coded (code_in m)) (rules_front ps es (entry_in m) cs (row_classes m.labels) c.1) (room_left _ _ _ d.1) fit)
  load_changes t (Err d) h = change.none

  -- start and go
  same_changes : {X : Type 0} (f : X → CardDef) → ((x : X) → (f x).store ≡ k.store) → (r : Result X Refusal) → Change k.kind k.store (unless_refused k f r).store
  same_changes f h r = subst (Change k.kind k.store) (sym (unless_same (λ j. j.store) k f h r)) change.none

module _ {C : Type 0} (reply : Reply C) where
  pub act_changes : (k : CardDef) (c : C) (x : CallDef) → Tree k.store.classes → Change k.kind k.store (act reply k c x).card.store
  act_changes k c (class p) t = class_changes k p t (class_answer k p) refl
  act_changes k c (native e) t = native_changes k e (native_row k e) refl
  act_changes k c (load s) t = load_changes k s (loaded_method k s) refl
  act_changes k c (start v m vs) t = same_changes k (λ f. with_run k (in_hand f [])) (λ f. refl) (started_frame k v m vs)
  act_changes k c (go n) t = same_changes k (λ g. with_run k g.run) (λ g. refl) (gone_by k reply n c)
  act_changes k c (fill s room) t = change.none

  pub act_kind : (k : CardDef) (c : C) (x : CallDef) → (act reply k c x).card.kind ≡ k.kind
  act_kind k c (class p) = refl
  act_kind k c (native e) = unless_same (λ j. j.kind) k (λ x. with_row k x stores.native) (λ x. refl) (native_row k e)
  act_kind k c (load s) = unless_same (λ j. j.kind) k (λ m. with_row k (entry_in m) (coded (code_in m))) (λ m. refl) (loaded_method k s)
  act_kind k c (start v m vs) = unless_same (λ j. j.kind) k (λ f. with_run k (in_hand f [])) (λ f. refl) (started_frame k v m vs)
  act_kind k c (go n) = unless_same (λ j. j.kind) k (λ g. with_run k g.run) (λ g. refl) (gone_by k reply n c)
  act_kind k c (fill s room) = refl

  pub act_founded : (k : CardDef) (c : C) (x : CallDef) → Founded k.store → Founded (act reply k c x).card.store
  act_founded k c x h = founded_kept (act_changes k c x h.tree) h

  pub act_grows : (k : CardDef) (c : C) (x : CallDef) → Founded k.store → Grows k.store (act reply k c x).card.store
  act_grows k c x h = change_grows (act_changes k c x h.tree)

  pub act_checked : (k : CardDef) (c : C) (x : CallDef) → k.kind ≡ Issue → Checked k.store → Checked (act reply k c x).card.store
  act_checked k c x is h = checked_kept (subst (λ (z : Kind). Change z k.store (act reply k c x).card.store) is (act_changes k c x h.founded.tree)) h

  -- after a list of calls
  all_founded : (k : CardDef) (c : C) (xs : List CallDef) → Founded k.store → Founded (after_all reply k c xs).card.store
  all_founded k c [] h = h
  all_founded k c (x ∷ xs) h = all_founded (act reply k c x).card (act reply k c x).host xs (act_founded k c x h)

  all_checked : (k : CardDef) (c : C) (xs : List CallDef) → k.kind ≡ Issue → Checked k.store → Checked (after_all reply k c xs).card.store
  all_checked k c [] is h = h
  all_checked k c (x ∷ xs) is h = all_checked (act reply k c x).card (act reply k c x).host xs (act_kind k c x ∙ is) (act_checked k c x is h)

  pub moments_append : (k : CardDef) (c : C) (xs ys : List CallDef)
      → moments reply k c (xs ++ ys) ≡ moments reply k c xs ++ moments reply (after_all reply k c xs).card (after_all reply k c xs).host ys
  moments_append k c [] ys = refl
  moments_append k c (x ∷ xs) ys = ap (λ (ms : List (Moment C)). moment_of reply k c x ∷ ms) (moments_append (act reply k c x).card (act reply k c x).host xs ys)

  pub after_append : (k : CardDef) (c : C) (xs ys : List CallDef) → after_all reply k c (xs ++ ys) ≡ after_all reply (after_all reply k c xs).card (after_all reply k c xs).host ys
  after_append k c [] ys = refl
  after_append k c (x ∷ xs) ys = after_append (act reply k c x).card (act reply k c x).host xs ys

pub fills_after : {C : Type 0} (kind : Kind) (reply : Reply C) (first : C) (calls : List CallDef) → Founded (after_all reply (blank_card kind) first calls).card.store
fills_after kind reply first calls = all_founded reply (blank_card kind) first calls (blank_founded kind)

pub checked_after : {C : Type 0} (reply : Reply C) (first : C) (calls : List CallDef) → Checked (after_all reply (blank_card Issue) first calls).card.store
checked_after reply first calls = all_checked reply (blank_card Issue) first calls refl (blank_checked Issue)
