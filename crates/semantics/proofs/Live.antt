-- In a sweep that alters nothing the points with a row are those with a path from point 0.
use Rattle.std.proofs.Common.{◌≡◌, ℕ, zero, suc, ◌+◌, ◌<◌, false, List, [], ◌∷◌, length, Some, None, Option, sym, refl, ap, ◌∙◌, subst, inl, inr, add-zero, zero-add, arith}
use Rattle.std.proofs.lemmas.Bool.{eq-eqb, ne_eqb, cond-true, cond-false, cases_lt, false≢true}
use Rattle.semantics.specs.Entries.{EntryDef}
use Rattle.semantics.specs.Fill.{Table, row_in, label_number, lowest}
use Rattle.semantics.specs.Form.{leaves}
use Rattle.semantics.specs.FormLaws.{Leaves, WellFormed}
use Rattle.semantics.specs.Lists.{At, here, there}
use Rattle.semantics.specs.Methods.{Op, return, jump, jump_if, jump_list, invoke, LabelDef, MethodDef}
use Rattle.semantics.specs.Passes.{Path, here, on, to}
use Rattle.semantics.specs.Tests.{named_labels}
use Rattle.semantics.proofs.Arrivals.{from_none, same_some}
use Rattle.semantics.proofs.ItemPlaces.{at_within, each_at}
use Rattle.semantics.proofs.Sweeping.{label_here, Quiet, end, over, at, row_here}
use Rattle.semantics.proofs.Weights.{FitsIn, Arrives}

-- a label above those before it is found by its point
number_at : (ls : List LabelDef) (n i : ℕ) (l : LabelDef) → At ls i l → ((j : ℕ) (k : LabelDef) → At ls j k → j < i → k.point < l.point) → label_number ls n l.point ≡ Some (n + i)
number_at [] n i l a low = elim a [ ]
number_at (l ∷ ls) n zero k here low = cond-true _ _ _ (eq-eqb l.point l.point refl) ∙ ap Some (sym (add-zero n))
number_at (x ∷ ls) n (suc i) l (there a) low =
    let h = low 0 x here (omega arith) in
    let e : n + 1 + i ≡ n + suc i = omega arith in
    cond-false _ _ _ (ne_eqb x.point l.point (λ e. omega arith)) ∙ number_at ls (n + 1) i l a (λ j k b g. low (suc j) k (there b) (omega arith)) ∙ ap Some e

pub number_here : (m : MethodDef) → WellFormed m → (i : ℕ) (l : LabelDef) → At m.labels i l → label_here m l.point ≡ Some i
number_here m w i l a = number_at m.labels 0 i l a (w.rising i l a) ∙ ap Some (zero-add i)

-- behind an operation that does not leave stands another
pub goes_on : (m : MethodDef) → WellFormed m → (p : ℕ) (o : Op) → At m.code p o → leaves o ≡ false → p + 1 < length m.code
goes_on m w p o a f =
    let h = at_within a in
    elim (cases_lt (p + 1) (length m.code)) [ inl l ↦ l | inr l ↦ absurd (stays o f (w.last p o a (omega arith))) ]
  where
    stays : (o : Op) → leaves o ≡ false → Leaves o → ⊥
    stays (return a) f l = false≢true (sym f)
    stays (jump n) f l = false≢true (sym f)
    stays (jump_if a n) f l = l
    stays (jump_list a ns) f l = l
    stays (invoke d a n bs) f l = l

never_none : (ps : List ℕ) (t : Table) (label : Option ℕ) (current : Option (List ℕ)) (us : List ℕ) → Arrives ps label current t → row_here t label current ≡ None → current ≡ Some us → ⊥
never_none ps t None current us a n e = from_none (sym n ∙ e)
never_none ps t (Some i) None us a n e = from_none e
never_none ps t (Some i) (Some ts) us a n e = from_none (sym n ∙ a.1)

module _ {ps : List ℕ} {es : List EntryDef} {m : MethodDef} {t : Table} where
  -- the k-th of the points has a row
  abbrev pub Live : {p : ℕ} {current : Option (List ℕ)} {os : List Op} {q r : Option ℕ} → Quiet ps es m t p current os q r → ℕ → Type 0
  Live end k = ⊥
  Live (over a n rest) zero = ⊥
  Live (over a n rest) (suc k) = Live rest k
  Live (at a e b f g rest) zero = Unit {0}
  Live (at a e b f g rest) (suc k) = Live rest k

  pub live_path : {p : ℕ} {current : Option (List ℕ)} {os : List Op} {q r : Option ℕ} (s : Quiet ps es m t p current os q r) (k : ℕ) → Live s k → Path m 0 (p + k)
  live_path end k l = absurd l
  live_path (over a n rest) zero l = absurd l
  live_path {p} (over a n rest) (suc k) l = let e : p + 1 + k ≡ p + suc k = omega arith in subst (Path m 0) e (live_path rest k l)
  live_path {p} (at a e b f g rest) zero l = subst (Path m 0) (sym (add-zero p)) b
  live_path {p} (at a e b f g rest) (suc k) l = let e : p + 1 + k ≡ p + suc k = omega arith in subst (Path m 0) e (live_path rest k l)

  pub live_first : {p : ℕ} {current : Option (List ℕ)} {os : List Op} {q r : Option ℕ} (s : Quiet ps es m t p current os q r) (us : List ℕ) → current ≡ Some us → 0 < length os → Live s 0
  live_first end us e h = absurd (omega arith)
  live_first {p} {current} (over a n rest) us e h = never_none ps t (label_here m p) current us a n e
  live_first (at a e b f g rest) us i h = tt

  live_next : {p : ℕ} {current : Option (List ℕ)} {os : List Op} {q r : Option ℕ} (s : Quiet ps es m t p current os q r) (k : ℕ) (o : Op) → At os k o → leaves o ≡ false → suc k < length os → Live s k → Live s (suc k)
  live_next end k o x f h l = absurd l
  live_next (over a n rest) zero o x f h l = absurd l
  live_next (over a n rest) (suc k) o (there x) f h l = live_next rest k o x f (omega arith) l
  live_next (at {o = c} {us = us} a e b g i rest) zero o here f h l = live_first rest us (cond-false (leaves c) None (Some us) f) (omega arith)
  live_next (at a e b g i rest) (suc k) o (there x) f h l = live_next rest k o x f (omega arith) l

  live_label : {p : ℕ} {current : Option (List ℕ)} {os : List Op} {q r : Option ℕ} (s : Quiet ps es m t p current os q r) (k n : ℕ) (us : List ℕ) → k < length os → label_here m (p + k) ≡ Some n → row_in t n ≡ Some us → Live s k
  live_label end k n us h e i = absurd (omega arith)
  live_label {p} {current} (over a none rest) zero n us h e i =
      let g : label_here m p ≡ Some n = rw add-zero at e in
      from_none (sym (subst (λ (x : Option ℕ). row_here t x current ≡ None) g none) ∙ i)
  live_label {p} (over a none rest) (suc k) n us h e i = let g : p + suc k ≡ p + 1 + k = omega arith in live_label rest k n us (omega arith) (rw g at e) i
  live_label (at a f b c d rest) zero n us h e i = tt
  live_label {p} (at a f b c d rest) (suc k) n us h e i = let g : p + suc k ≡ p + 1 + k = omega arith in live_label rest k n us (omega arith) (rw g at e) i

  live_named : {p : ℕ} {current : Option (List ℕ)} {os : List Op} {q r : Option ℕ} (s : Quiet ps es m t p current os q r) (k j n : ℕ) (o : Op) → At os k o → At (named_labels o) j n → Live s k → (us : List ℕ) × (row_in t n ≡ Some us)
  live_named end k j n o x y l = absurd l
  live_named (over a none rest) zero j n o x y l = absurd l
  live_named (over a none rest) (suc k) j n o (there x) y l = live_named rest k j n o x y l
  live_named (at {ts = ts} a e b f g rest) zero j n o here y l = let r = each_at (FitsIn ps ts t) g y in (r.0, r.1)
  live_named (at a e b f g rest) (suc k) j n o (there x) y l = live_named rest k j n o x y l

  pub live_set : {p : ℕ} {current : Option (List ℕ)} {os : List Op} {q r : Option ℕ} (s : Quiet ps es m t p current os q r) (k n : ℕ) → label_here m (p + k) ≡ Some n → Live s k → (us : List ℕ) × (row_in t n ≡ Some us)
  live_set end k n e l = absurd l
  live_set (over a none rest) zero n e l = absurd l
  live_set {p} (over a none rest) (suc k) n e l = let g : p + suc k ≡ p + 1 + k = omega arith in live_set rest k n (rw g at e) l
  live_set {p} {current} (at {ts = ts} a f b c d rest) zero n e l =
      let g : label_here m p ≡ Some n = rw add-zero at e in
      (ts, subst (λ (x : Option ℕ). row_here t x current ≡ Some ts) g f)
  live_set {p} (at a f b c d rest) (suc k) n e l = let g : p + suc k ≡ p + 1 + k = omega arith in live_set rest k n (rw g at e) l

  -- rows go wherever a path goes
  pub live_on : WellFormed m → {current : Option (List ℕ)} {q r : Option ℕ} (s : Quiet ps es m t 0 current m.code q r) {i j : ℕ} → Path m i j → Live s i → Live s j
  live_on w s here l = l
  live_on w s {i} (on {o = o} a f path) l =
      let h = goes_on m w i o a f in
      let e : suc i ≡ i + 1 = omega arith in
      live_on w s path (subst (Live s) e (live_next s i o a f (omega arith) l))
  live_on w s {i} (to {k = k} {n = n} {o = o} {l = x} a b c path) l =
      let r = live_named s i k n o a b l in
      live_on w s path (live_label s x.point n r.0 (w.inside n x c) (ap (label_here m) (zero-add x.point) ∙ number_here m w n x c) r.1)

  -- what was passed over: the lowest point without a row
  missed_stays : {p : ℕ} {current : Option (List ℕ)} {os : List Op} {q r : Option ℕ} → Quiet ps es m t p current os q r → (x : ℕ) → q ≡ Some x → r ≡ Some x
  missed_stays end x e = e
  missed_stays {p} {q = q} (over a n rest) x e = missed_stays rest x (ap (λ y. lowest y p) e)
  missed_stays (at a e b f g rest) x h = missed_stays rest x h

  pub some_missed : {p : ℕ} {current : Option (List ℕ)} {os : List Op} {q r : Option ℕ} (s : Quiet ps es m t p current os q r) (x : ℕ) → q ≡ None → r ≡ Some x
      → (k : ℕ) × (x ≡ p + k) × (k < length os) × (Live s k → ⊥) × ((j : ℕ) → j < k → Live s j)
  some_missed end x e f = from_none (sym e ∙ f)
  some_missed {p} (over a n rest) x e f =
      let same : p ≡ x = same_some (sym (missed_stays rest p (ap (λ y. lowest y p) e)) ∙ f) in
      (0, sym same ∙ sym (add-zero p), omega arith, (λ l. l), λ j h. absurd (omega arith))
  some_missed {p} (at a e b f g rest) x h i =
      let r = some_missed rest x h i in
      (suc r.0, (let y = r.1 in omega arith), (let y = r.2 in omega arith), r.3, λ j k. before j k r.4)
    where
      before : {n : ℕ} (j : ℕ) → j < suc n → ((j : ℕ) → j < n → Live rest j) → Live (at a e b f g rest) j
      before zero k all = tt
      before (suc j) k all = all j (omega arith)

  pub none_missed : {p : ℕ} {current : Option (List ℕ)} {os : List Op} {q r : Option ℕ} (s : Quiet ps es m t p current os q r) → r ≡ None → (k : ℕ) → k < length os → Live s k
  none_missed end e k h = absurd (omega arith)
  none_missed {p} {q = None} (over a n rest) e k h = from_none (sym e ∙ missed_stays rest p refl)
  none_missed {p} {q = Some x} (over a n rest) e k h = from_none (sym e ∙ missed_stays rest x refl)
  none_missed (at a e b f g rest) h zero k = tt
  none_missed (at a e b f g rest) h (suc j) k = none_missed rest h j (omega arith)
