-- Filling gives the least table that passes or refuses with cause, names the lowest point without a path, and ends.
use Rattle.std.proofs.Common.{◌≡◌, ℕ, zero, suc, ◌<◌, ◌≤◌, true, false, ◌⊎◌, List, length, replicate, Some, None, Ok, Err, Option, Result, sym, refl, ap, ◌∙◌, subst, inl, inr, zero-add, arith, length-set}
use lib.ListN.{length-replicate}
use Rattle.std.proofs.lemmas.Bool.{both_ways}
use Rattle.semantics.specs.declared.refusal.Refusal.{Refusal}
use Rattle.semantics.specs.declared.refusal.Refusal.TheVariants.{Unreached}
use Rattle.semantics.specs.Check.{zeros}
use Rattle.semantics.specs.CheckLaws.{EntryKnown}
use Rattle.semantics.specs.Entries.{EntryDef, Agree}
use Rattle.semantics.specs.Fill.{Table, row_in, Sweep, sweep_of, Filled, no_rows, fill_of, max_sweeps}
use Rattle.semantics.specs.FillLaws.{Rows, PassesWith, FitTable, rows_of, IsTest, Filling, FillingHolds}
use Rattle.semantics.specs.FormLaws.{WellFormed}
use Rattle.semantics.specs.Methods.{Each, MethodDef}
use Rattle.semantics.specs.Passes.{Path}
use Rattle.semantics.specs.Tests.{classes_fit}
use Rattle.semantics.specs.Tree.{Tree}
use Rattle.semantics.proofs.Arrivals.{from_none}
use Rattle.semantics.proofs.Coming.{RowsAre}
use Rattle.semantics.proofs.Below.{Under, sweep_under}
use Rattle.semantics.proofs.Failing.{sweep_fails}
use Rattle.semantics.proofs.Live.{live_first, live_path, live_on, some_missed, none_missed}
use Rattle.semantics.proofs.Lowering.{over_itself, Moved, kept, put, lowers_same, own_passes, own_lower}
use Rattle.semantics.proofs.OnlyTexts.{same_ok, from_err}
use Rattle.semantics.proofs.Passing.{each_row, row_told, fit_table, still_passes, all_set, rows_shaped}
use Rattle.semantics.proofs.Reaching.{KeepsWhole, Sound, sweep_told}
use Rattle.semantics.proofs.Rounds.{Outcome, filled, missed, fails, fill_ends, fill_enough}
use Rattle.semantics.proofs.RuleTests.{decides_fit}
use Rattle.semantics.proofs.Sweeping.{Quiet}
use Rattle.semantics.proofs.Weights.{weight, weight_none}

none_in : (n k : ℕ) → row_in (replicate n None) k ≡ None
none_in zero k = refl
none_in (suc n) zero = refl
none_in (suc n) (suc k) = none_in n k

-- a table without rows: what is asked of each row is met
none_are : (P : ℕ → List ℕ → Type 0) (m : MethodDef) → RowsAre P (no_rows m)
none_are P m n r e = from_none (sym (none_in (length m.labels) n) ∙ e)

moved_long : {es : List EntryDef} {ts us ws vs : List ℕ} → Moved es ts us ws vs → length vs ≡ length us
moved_long kept = refl
moved_long {us = us} (put n a) = length-set us n _

keeps_whole : (ps : List ℕ) → Tree ps → (es : List EntryDef) → Each (EntryKnown ps) es → Agree ps es → (m : MethodDef) → KeepsWhole ps es m
keeps_whole ps tree es known agree m ts us o whole e =
    let low = own_lower ps tree es agree known m ts ts us o ((decides_fit ps tree ts ts).1 whole.0) e in
    let same : low.0 ≡ us = same_ok (sym low.1 ∙ e) in
    let moved = own_passes (over_itself tree agree) m ts ts (lowers_same (over_itself tree agree) ts) o us e in (
      (decides_fit ps tree us us).0 (subst (λ (ws : List ℕ). classes_fit ps ws us ≡ true) same low.2),
      moved_long moved.2 ∙ whole.1,
    )

-- how a whole filling ends
module _ (ps : List ℕ) (es : List EntryDef) (m : MethodDef) (Inv : Table → Type 0) where
  abbrev Last : Option ℕ → Table → Type 0
  Last q t = (u : Table) × (z : Sweep) × Inv u × (sweep_of ps es m u ≡ Ok z) × (z.altered ≡ false) × (z.missed ≡ q) × (z.table ≡ t)

  ended_ok : {n : ℕ} (r : Result Filled Refusal) → Outcome ps es m Inv n 0 r → (f : Filled) → r ≡ Ok f → Last None f.table × (0 < f.sweeps) × (f.sweeps ≤ n)
  ended_ok r (filled {t = u} {z = z} i e a q g h) f s =
      let same = same_ok s in
      let count = ap (λ (x : Filled). x.sweeps) same in
      ((u, z, i, e, a, q, ap (λ (x : Filled). x.table) same), omega arith, omega arith)
  ended_ok r (missed i e a q) f s = from_err s
  ended_ok r (fails i e) f s = from_err s

  abbrev Stopped : Refusal → Type 0
  Stopped e = ((u : Table) × Inv u × (sweep_of ps es m u ≡ Err e)) ⊎ ((p : ℕ) × (e ≡ Unreached p) × ((t : Table) × Last (Some p) t))

  ended_err : {n : ℕ} (r : Result Filled Refusal) → Outcome ps es m Inv n 0 r → (e : Refusal) → r ≡ Err e → Stopped e
  ended_err r (filled i e a q g h) d s = from_err (sym s)
  ended_err r (missed {t = u} {z = z} {p = p} i e a q) d s = inr (p, (cc), (z.table, (u, z, i, e, a, q, refl)))
  ended_err r (fails {t = u} i e) d s = inl (u, i, (cc))

test_unreached : (p : ℕ) → IsTest (Unreached p) → ⊥
test_unreached p t = let h = t.1 in omega arith

module _ (ps : List ℕ) (tree : Tree ps) (es : List EntryDef) (known : Each (EntryKnown ps) es) (agree : Agree ps es) (m : MethodDef) (formed : WellFormed m)
    (some : 0 < length m.code) (few : length m.labels ≤ 16) (narrow : m.temporaries ≤ 8) where
  abbrev Fine : Table → Type 0
  Fine t = Sound ps tree es m formed narrow (keeps_whole ps tree es known agree m) t

  abbrev Still : Option ℕ → Table → Type 0
  Still q t = Quiet ps es m t 0 (Some (zeros m.temporaries)) m.code None q

  fine_next : (t : Table) (z : Sweep) → Fine t → sweep_of ps es m t ≡ Ok z → Fine z.table × (z.altered ≡ true → weight ps z.table < weight ps t)
  fine_next t z fine e =
      let r = sweep_told ps tree es m formed narrow (keeps_whole ps tree es known agree m) t z e fine in
      (r.0, λ a. elim r.1 [ inl x ↦ absurd (both_ways z.altered x.1 a) | inr x ↦ x.0 ])

  last_still : (t u : Table) (z : Sweep) (q : Option ℕ) → Fine u → sweep_of ps es m u ≡ Ok z → z.altered ≡ false → z.missed ≡ q → z.table ≡ t → Fine t × Still q t
  last_still t u z q fine e a is same =
      let r = sweep_told ps tree es m formed narrow (keeps_whole ps tree es known agree m) u z e fine in (
        subst Fine same r.0,
        elim r.1 [
          | inl x ↦ subst (λ (y : Table). Still q y) (sym x.0 ∙ same) (subst (λ (y : Option ℕ). Still y u) is x.2)
          | inr x ↦ absurd (both_ways z.altered a x.1)
        ],
      )

  none_fine : Fine (no_rows m)
  none_fine = (length-replicate (length m.labels) None, none_are _ m)

  none_light : weight ps (no_rows m) < max_sweeps
  none_light = let e = weight_none ps (length m.labels) in omega arith

  ends_fine : Outcome ps es m Fine max_sweeps 0 (fill_of ps es m)
  ends_fine = fill_ends ps es m Fine fine_next max_sweeps 0 (no_rows m) none_light none_fine

  done : (f : Filled) → fill_of ps es m ≡ Ok f → Fine f.table × Still None f.table
  done f e = let l = (ended_ok ps es m Fine (fill_of ps es m) ends_fine f e).0 in last_still f.table l.0 l.1 None l.2 l.3 l.4 l.5 l.6

  -- beside a table that passes
  module _ (rs : List (List ℕ)) (rows : Rows m rs) (passes : PassesWith ps es m rs) where
    abbrev Low : Table → Type 0
    Low t = Fine t × RowsAre (Under ps tree rs) t

    low_next : (t : Table) (z : Sweep) → Low t → sweep_of ps es m t ≡ Ok z → Low z.table × (z.altered ≡ true → weight ps z.table < weight ps t)
    low_next t z low e =
        let f = fine_next t z low.0 e in
        let u = sweep_under ps tree rs es known agree m formed rows.each passes t low.0.0 low.1 in
        let same : u.0 ≡ z = same_ok (sym u.1 ∙ e) in
        ((f.0, subst (λ (y : Sweep). RowsAre (Under ps tree rs) y.table) same u.2), f.1)

    ends_low : Outcome ps es m Low max_sweeps 0 (fill_of ps es m)
    ends_low = fill_ends ps es m Low low_next max_sweeps 0 (no_rows m) none_light (none_fine, none_are _ m)

    is_least : (f : Filled) → fill_of ps es m ≡ Ok f → FitTable ps (rows_of f.table) rs
    is_least f e =
        let d = done f e in
        let l = (ended_ok ps es m Low (fill_of ps es m) ends_low f e).0 in
        let low = (low_next l.0 l.1 l.2 l.3).0.1 in
        let wide = each_row ps tree es m f.table d.0.0 in
        let each = rows.each in
        fit_table ps (rows_of f.table) rs (omega arith) (λ n h.
        let s = all_set ps tree es m f.table d.0.0 d.1 formed n (let k = d.0.0 in omega arith) in
        subst (λ (r : List ℕ). Under ps tree rs n r) (sym (row_told f.table n s.0 s.1))
        (subst (RowsAre (Under ps tree rs)) l.6 low n s.0 s.1))

    never_fails : (e : Refusal) → fill_of ps es m ≡ Err e → IsTest e → ⊥
    never_fails e is test =
        elim (ended_err ps es m Low (fill_of ps es m) ends_low e is) [
          | inl x ↦ from_err (sym x.2 ∙ (sweep_under ps tree rs es known agree m formed rows.each passes x.0 x.1.0.0 x.1.1).1)
          | inr x ↦ test_unreached x.0 (subst IsTest x.1 test)
        ]

  refused : (e : Refusal) → fill_of ps es m ≡ Err e → IsTest e ⊎ ((p : ℕ) × (e ≡ Unreached p))
  refused e is =
      elim (ended_err ps es m Fine (fill_of ps es m) ends_fine e is) [
        | inl x ↦ inl (sweep_fails ps es m x.0 _ x.2)
        | inr x ↦ inr (x.0, x.1)
      ]

  lowest_missed : (p : ℕ) (t : Table) → Still (Some p) t → (p < length m.code) × (Path m 0 p → ⊥) × ((q : ℕ) → q < p → Path m 0 q)
  lowest_missed p t still =
      let k = some_missed still p refl refl in
      let same : k.0 ≡ p = sym (k.1 ∙ zero-add k.0) in (
        (let h = k.2 in omega arith),
        (λ path. k.3 (live_on formed still (subst (Path m 0) (sym same) path) (live_first still (zeros m.temporaries) refl some))),
        λ q h. subst (Path m 0) (zero-add q) (live_path still q (k.4 q (omega arith))),
      )

  unreached : (p : ℕ) → fill_of ps es m ≡ Err (Unreached p) → (p < length m.code) × (Path m 0 p → ⊥) × ((q : ℕ) → q < p → Path m 0 q)
  unreached p is =
      elim (ended_err ps es m Fine (fill_of ps es m) ends_fine (Unreached p) is) [
        | inl x ↦ absurd (test_unreached p (sweep_fails ps es m x.0 _ x.2))
        | inr x ↦ (let l = x.2.1 in
            let same : x.0 ≡ p = number x.1 in
            let s = last_still x.2.0 l.0 l.1 (Some x.0) l.2 l.3 l.4 l.5 l.6 in
            lowest_missed p x.2.0 (subst (λ (y : ℕ). Still (Some y) x.2.0) same s.1))
      ]
    where
      number : {p q : ℕ} → Unreached p ≡ Unreached q → q ≡ p
      number e = cc

  filling : Filling ps es m
  filling = record {
    shaped = λ f e. let d = done f e in rows_shaped ps tree es m f.table d.0.0 d.1 formed (λ n r h. (d.0.1 n r h).0);
    passes = λ f e. let d = done f e in still_passes ps tree es m f.table d.0.0 d.1;
    least = λ f e rs rows passes. is_least rs rows passes f e;
    justified = λ e is test rs rows passes. never_fails rs rows passes e is test;
    refuses = refused;
    unreached = unreached;
    reached = λ f e p h. let d = done f e in subst (Path m 0) (zero-add p) (live_path d.1 p (none_missed d.1 refl p h));
    bounded = λ f e. let r = ended_ok ps es m Fine (fill_of ps es m) ends_fine f e in (r.1, r.2);
    ends = λ n h. fill_enough ps es m Fine fine_next n max_sweeps 0 (no_rows m) (let l = none_light in omega arith) none_light none_fine;
  }

pub filling_holds : FillingHolds
filling_holds ps es m tree known agree own formed some few narrow = filling ps tree es known agree m formed some few narrow
