-- Sweeps keep tables sound: rows are whole and their labels have a path; and an altering sweep makes the table lighter.
use Rattle.std.proofs.Common.{◌≡◌, ℕ, ◌+◌, ◌<◌, ◌≤◌, false, List, ◌∷◌, length, Some, None, Ok, Option, sym, refl, ap, ◌∙◌, subst, inl, arith}
use Rattle.semantics.specs.Check.{carried, zeros}
use Rattle.semantics.specs.Entries.{EntryDef}
use Rattle.semantics.specs.Fill.{Table, join_rows, Sweep, sweeping, comes_to, falls_into, row_there, lowest, passed_over, sweep_of}
use Rattle.semantics.specs.FormLaws.{WellFormed}
use Rattle.semantics.specs.Lists.{At}
use Rattle.semantics.specs.Methods.{Each, Op, LabelDef, MethodDef}
use Rattle.semantics.specs.Passes.{Path, here, on, to}
use Rattle.semantics.specs.Tests.{own_tests, named_labels}
use Rattle.semantics.specs.Tree.{Tree}
use Rattle.semantics.proofs.Arrivals.{from_none, same_some}
use Rattle.semantics.proofs.Coming as coming
use Rattle.semantics.proofs.Coming.{RowsAre, each_from}
use Rattle.semantics.proofs.ItemPlaces.{at_within}
use Rattle.semantics.proofs.Joining.{Whole, whole_zeros}
use Rattle.semantics.proofs.Searches.{same_at}
use Rattle.semantics.proofs.Sweeping.{Within, within_head, within_tail, within_all, label_here, label_here_lem, named_below, path_further, carried_some, Run, end, over, at, sweep_runs, Quiet, row_here, row_there_lem}
use Rattle.semantics.proofs.Weights.{Changed, changed_then, changed_as, FitsIn, Arrives, whole_joins, comes_to_changed, falls_changed}

-- own tests give whole rows from whole rows
abbrev pub KeepsWhole : List ℕ → List EntryDef → MethodDef → Type 0
KeepsWhole ps es m = (ts us : List ℕ) (o : Op) → Whole ps m.temporaries ts → own_tests ps es m ts o ≡ Ok us → Whole ps m.temporaries us

module _ (ps : List ℕ) (tree : Tree ps) (es : List EntryDef) (m : MethodDef) (formed : WellFormed m) (narrow : m.temporaries ≤ 8) (keeps : KeepsWhole ps es m) where
  -- what holds of a row that has come to a label, or to a point
  abbrev pub Come : ℕ → List ℕ → Type 0
  Come p ts = Whole ps m.temporaries ts × Path m 0 p

  abbrev pub Good : ℕ → List ℕ → Type 0
  Good n ts = Whole ps m.temporaries ts × ((l : LabelDef) → At m.labels n l → Path m 0 l.point)

  abbrev pub Sound : Table → Type 0
  Sound t = (length t ≡ length m.labels) × RowsAre Good t

  good_joins : (n : ℕ) (r ts : List ℕ) → Good n r → Good n ts → Good n (join_rows ps r ts)
  good_joins n r ts old new = (whole_joins ps tree m.temporaries narrow n r ts old.0 new.0, old.1)

  module _ (p : ℕ) (current : Option (List ℕ)) (s : Sweep) (sound : Sound s.table) (come : (ts : List ℕ) → current ≡ Some ts → Come p ts) where
    abbrev Fell : Sweep
    Fell = falls_into ps (label_here m p) current s

    label_below : (n : ℕ) → label_here m p ≡ Some n → n < length s.table
    label_below n e = let h = at_within (label_here_lem m p n e).1 in let k = sound.0 in omega arith

    here_good : (n : ℕ) (ts : List ℕ) → label_here m p ≡ Some n → Come p ts → Good n ts
    here_good n ts e c = (c.0, λ l a. let h = label_here_lem m p n e in let same : p ≡ l.point = sym h.2 ∙ ap (λ (x : LabelDef). x.point) (same_at h.1 a) in subst (Path m 0) same c.1)

    pub fell_sound : Sound Fell.table
    fell_sound = (
      coming.falls_long ps (label_here m p) current s ∙ sound.0,
      coming.falls_are ps Good good_joins (label_here m p) current s label_below (λ n ts e f. here_good n ts e (come ts f)) sound.1,
    )

    pub fell_changed : Changed ps (Arrives ps (label_here m p) current) s Fell
    fell_changed = falls_changed ps tree m.temporaries narrow (label_here m p) current s label_below (λ ts e. (come ts e).0) (λ n r e. (sound.1 n r e).0)

    pub there_come : (ts : List ℕ) → row_there (label_here m p) current Fell ≡ Some ts → Come p ts
    there_come ts e = go (label_here m p) refl (sym (row_there_lem (label_here m p) current Fell) ∙ e)
      where
        go : (label : Option ℕ) → label_here m p ≡ label → row_here (falls_into ps (label_here m p) current s).table label current ≡ Some ts → Come p ts
        go None is f = come ts f
        go (Some n) is f = let g = fell_sound.1 n ts f in let h = label_here_lem m p n is in (g.0, subst (Path m 0) h.2 (g.1 h.0 h.1))

  module _ (p : ℕ) (o : Op) (at : At m.code p o) (ts : List ℕ) (come : Come p ts) (s : Sweep) (sound : Sound s.table) where
    named_here : Each (λ n. n < length s.table) (named_labels o)
    named_here = each_from _ (named_labels o) (λ k n a. let h = named_below m formed p o at k n a in let l = sound.0 in omega arith)

    pub went_sound : Sound (comes_to ps ts (named_labels o) s).table
    went_sound = (
      coming.comes_to_long ps ts (named_labels o) s ∙ sound.0,
      coming.comes_to_are ps Good good_joins ts (named_labels o) s named_here
          (each_from _ (named_labels o) (λ k n a. (come.0, λ l b. path_further m come.1 (to at a b here)))) sound.1,
    )

    pub went_changed : Changed ps (λ t. Each (FitsIn ps ts t) (named_labels o)) s (comes_to ps ts (named_labels o) s)
    went_changed = comes_to_changed ps tree m.temporaries narrow ts (named_labels o) s named_here come.0 (λ n r e. (sound.1 n r e).0)

    pub behind_come : (us vs : List ℕ) → own_tests ps es m ts o ≡ Ok us → carried o us ≡ Some vs → Come (p + 1) vs
    behind_come us vs e c =
        let k = carried_some o us vs c in
        (subst (Whole ps m.temporaries) k.1 (keeps ts us o come.0 e), path_further m come.1 (on at k.0 here))

  -- a sweep keeps the table sound; it makes it lighter, or alters nothing
  pub run_told : (p : ℕ) (current : Option (List ℕ)) (s : Sweep) (os : List Op) (z : Sweep) → Run ps es m p current s os z → Within m p os
      → Sound s.table → ((ts : List ℕ) → current ≡ Some ts → Come p ts)
      → Sound z.table × Changed ps (λ t. Quiet ps es m t p current os s.missed z.missed) s z
  run_told p current s os z end within sound come = (sound, inl (refl, refl, end))
  run_told p current s (o ∷ os) z (over none rest) within sound come =
      let f = falls_into ps (label_here m p) current s in
      let Rest : Table → Type 0 = λ t. Quiet ps es m t (p + 1) None os (lowest f.missed p) z.missed in
      let Row : Table → Type 0 = λ t. row_here t (label_here m p) current ≡ None in
      let r = run_told (p + 1) None (passed_over p f) os z rest (within_tail m p o os within) (fell_sound p current s sound come) (λ ts e. from_none e) in (
        r.0,
        changed_as ps (λ t. Arrives ps (label_here m p) current t × (Row t × Rest t)) (λ t. Quiet ps es m t p current (o ∷ os) s.missed z.missed) s z
            (λ x. over x.0 x.1.0 (subst (λ (q : Option ℕ). Quiet ps es m s.table (p + 1) None os (lowest q p) z.missed) (coming.falls_missed ps (label_here m p) current s) x.1.1))
            (changed_then ps (Arrives ps (label_here m p) current) (λ t. Row t × Rest t) s f z (fell_changed p current s sound come)
            (changed_as ps Rest (λ t. Row t × Rest t) f z (λ x. (sym (row_there_lem (label_here m p) current f) ∙ none, x)) r.1)),
      )
  run_told p current s (o ∷ os) z (at {ts = ts} {us = us} some tested rest) within sound come =
      let f = falls_into ps (label_here m p) current s in
      let g = comes_to ps ts (named_labels o) f in
      let fs = fell_sound p current s sound come in
      let c = there_come p current s sound come ts some in
      let a = within_head m p o os within in
      let Rest : Table → Type 0 = λ t. Quiet ps es m t (p + 1) (carried o us) os g.missed z.missed in
      let Row : Table → Type 0 = λ t. row_here t (label_here m p) current ≡ Some ts in
      let Named : Table → Type 0 = λ t. Each (FitsIn ps ts t) (named_labels o) in
      let r = run_told (p + 1) (carried o us) g os z rest (within_tail m p o os within) (went_sound p o a ts c f fs) (λ vs e. behind_come p o a ts c f fs us vs tested e) in (
        r.0,
        changed_as ps (λ t. Arrives ps (label_here m p) current t × (Row t × (Named t × Rest t))) (λ t. Quiet ps es m t p current (o ∷ os) s.missed z.missed) s z
            (λ x. at x.0 x.1.0 c.1 tested x.1.1.0
            (subst (λ (q : Option ℕ). Quiet ps es m s.table (p + 1) (carried o us) os q z.missed) (coming.comes_to_missed ps ts (named_labels o) f ∙ coming.falls_missed ps (label_here m p) current s) x.1.1.1))
            (changed_then ps (Arrives ps (label_here m p) current) (λ t. Row t × (Named t × Rest t)) s f z (fell_changed p current s sound come)
            (changed_as ps (λ t. Named t × Rest t) (λ t. Row t × (Named t × Rest t)) f z (λ x. (sym (row_there_lem (label_here m p) current f) ∙ some, x))
            (changed_then ps Named Rest f g z (went_changed p o a ts c f fs) r.1))),
      )

  pub zeros_come : (ts : List ℕ) → Some (zeros m.temporaries) ≡ Some ts → Come 0 ts
  zeros_come ts e = (subst (Whole ps m.temporaries) (same_some e) (whole_zeros ps tree m.temporaries), here)

  pub sweep_told : (t : Table) (z : Sweep) → sweep_of ps es m t ≡ Ok z → Sound t
      → Sound z.table × Changed ps (λ u. Quiet ps es m u 0 (Some (zeros m.temporaries)) m.code None z.missed) (sweeping t false None) z
  unfolding sweep_of
  sweep_told t z e sound = run_told 0 _ (sweeping t false None) m.code z (sweep_runs ps es m 0 _ _ m.code z e) (within_all m) sound zeros_come
