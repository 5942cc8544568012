-- The table of a sweep that alters nothing and passes over no point is a table of whole rows that passes the check.
use Rattle.std.proofs.Common.{◌≡◌, ℕ, zero, suc, ◌+◌, ◌<◌, List, [], ◌∷◌, map, length, Some, None, Ok, Option, sym, refl, ap, ◌∙◌, subst, zero-add, arith}
use Rattle.std.proofs.lemmas.List.{length-map}
use Rattle.semantics.specs.declared.refusal.Refusal.TheVariants.{RowMisfit}
use Rattle.semantics.specs.Check.{arrived, carried, check_from, check_of, falling_in, label_at_point, point_tests, zeros, at_row, tested_at}
use Rattle.semantics.specs.Entries.{EntryDef}
use Rattle.semantics.specs.Fill.{Table, row_in, row_or, with_table}
use Rattle.semantics.specs.FillLaws.{Rows, PassesWith, FitTable, none, row, rows_of}
use Rattle.semantics.specs.FormLaws.{WellFormed}
use Rattle.semantics.specs.Lists.{At, here, there}
use Rattle.semantics.specs.Methods.{Each, Op, LabelDef, MethodDef}
use Rattle.semantics.specs.Passes.{RowFits}
use Rattle.semantics.specs.Reading.{so}
use Rattle.semantics.specs.Tests.{then, first_label, labels_fit, named_labels, own_tests}
use Rattle.semantics.specs.Tree.{Tree}
use Rattle.semantics.proofs.Arrivals.{from_none, same_some}
use Rattle.semantics.proofs.Coming.{RowsAre, each_from}
use Rattle.semantics.proofs.GivenRows.{Marks, row_of, label_marked, row_given, own_same, fit_labels}
use Rattle.semantics.proofs.ItemPlaces.{at_within, within_at, each_at}
use Rattle.semantics.proofs.Joining.{Whole}
use Rattle.semantics.proofs.LineTexts.{so_ok}
use Rattle.semantics.proofs.Live.{number_here, none_missed, live_set}
use Rattle.semantics.proofs.RuleTests.{decides_fit}
use Rattle.semantics.proofs.Sweeping.{label_here, Quiet, end, over, at, row_here}
use Rattle.semantics.proofs.Testing.{then_pass, must_pass, tested_pass}
use Rattle.semantics.proofs.Weights.{FitsIn, Arrives}

rows_told : (t : Table) (n : ℕ) → row_of (rows_of t) n ≡ row_or (row_in t n)
rows_told [] n = refl
rows_told (o ∷ t) zero = refl
rows_told (o ∷ t) (suc n) = rows_told t n

pub row_told : (t : Table) (n : ℕ) (r : List ℕ) → row_in t n ≡ Some r → row_of (rows_of t) n ≡ r
row_told t n r e = rows_told t n ∙ ap row_or e

row_at : (rs : List (List ℕ)) (k : ℕ) (r : List ℕ) → At rs k r → row_of rs k ≡ r
row_at [] k r a = elim a [ ]
row_at (x ∷ rs) zero r here = refl
row_at (x ∷ rs) (suc k) r (there a) = row_at rs k r a

pub fit_table : (ps : List ℕ) (rs ss : List (List ℕ)) → length rs ≡ length ss → ((n : ℕ) → n < length rs → RowFits ps (row_of rs n) (row_of ss n)) → FitTable ps rs ss
fit_table ps [] [] h fit = none
fit_table ps [] (s ∷ ss) h fit = absurd (omega arith)
fit_table ps (r ∷ rs) [] h fit = absurd (omega arith)
fit_table ps (r ∷ rs) (s ∷ ss) h fit = row (fit 0 (omega arith)) (fit_table ps rs ss (omega arith) (λ n l. fit (suc n) (omega arith)))

module _ (ps : List ℕ) (tree : Tree ps) (es : List EntryDef) (m : MethodDef) (t : Table) (long : length t ≡ length m.labels) where
  pub each_row : length (rows_of t) ≡ length m.labels
  each_row = length-map t row_or ∙ long

  abbrev Given : MethodDef
  Given = with_table m (map Some (rows_of t))

  arrives_passes : (p : ℕ) (label : Option ℕ) (x : Option LabelDef) → Marks (row_of (rows_of t)) label x → (current : Option (List ℕ)) (ts : List ℕ) → Arrives ps label current t → row_here t label current ≡ Some ts → arrived ps p current x ≡ Ok (Some ts)
  arrives_passes p None None marks current ts a e = ap Ok e
  arrives_passes p None (Some l) marks current ts a e = from_none (sym marks)
  arrives_passes p (Some n) None marks current ts a e = from_none marks.1
  arrives_passes p (Some n) (Some l) marks current ts a e = go current a
    where
      same : l.row ≡ ts
      same = ap (λ (x : LabelDef). x.row) (same_some marks.1) ∙ marks.2 ∙ row_told t n ts e

      go : (current : Option (List ℕ)) → Arrives ps (Some n) current t → arrived ps p current (Some l) ≡ Ok (Some ts)
      go None a = ap (λ r. Ok (Some r)) same
      go (Some cs) a =
          let fit = (decides_fit ps tree cs l.row).1 (subst (RowFits ps cs) (same_some (sym a.1 ∙ e) ∙ sym same) a.2) in
          so_ok (λ _. Ok (Some l.row)) (must_pass (RowMisfit p falling_in) fit) ∙ ap (λ r. Ok (Some r)) same

  point_passes : (ts us : List ℕ) (o : Op) → own_tests ps es m ts o ≡ Ok us → Each (FitsIn ps ts t) (named_labels o) → point_tests ps es Given ts o ≡ Ok us
  point_passes ts us o e fit =
      then_pass (λ us. then (labels_fit ps Given.labels ts (first_label o) (named_labels o)) (λ _. Ok us)) (own_same ps es m (map Some (rows_of t)) ts o ∙ e)
      ∙ then_pass (λ _. Ok us) (fit_labels ps tree Given.labels ts (first_label o) (named_labels o) (each_from _ (named_labels o) (λ k n a.
      let f = each_at (FitsIn ps ts t) fit a in
      subst (RowFits ps ts) (sym (row_given m.labels (rows_of t) each_row n ∙ row_told t n f.0 f.1)) f.2)))

  quiet_passes : {p : ℕ} {current : Option (List ℕ)} {os : List Op} {q r : Option ℕ} → Quiet ps es m t p current os q r → r ≡ None → check_from ps es Given p current os ≡ Ok tt
  quiet_passes end h = refl
  quiet_passes (over {o = o} a n rest) h = absurd (none_missed (over {o = o} a n rest) h 0 (omega arith))
  quiet_passes {p} {current} (at {o = o} {os = os} {ts = ts} {us = us} a e b f g rest) h =
      so_ok (λ c. at_row c (check_from ps es Given (p + 1) None os) (λ ts. so (tested_at p (point_tests ps es Given ts o)) (λ us. check_from ps es Given (p + 1) (carried o us) os)))
      (arrives_passes p (label_here m p) (label_at_point Given.labels p) (label_marked m (rows_of t) each_row p) current ts a e)
      ∙ so_ok (λ us. check_from ps es Given (p + 1) (carried o us) os) (tested_pass p (point_passes ts us o f g))
      ∙ quiet_passes rest h

  module _ (quiet : Quiet ps es m t 0 (Some (zeros m.temporaries)) m.code None None) where
    pub still_passes : PassesWith ps es m (rows_of t)
    unfolding check_of
    still_passes = quiet_passes quiet refl

    pub all_set : WellFormed m → (n : ℕ) → n < length t → (r : List ℕ) × (row_in t n ≡ Some r)
    all_set w n h =
        let l = within_at m.labels n (omega arith) in
        live_set quiet l.0.point n (ap (label_here m) (zero-add l.0.point) ∙ number_here m w n l.0 l.1) (none_missed quiet refl l.0.point (w.inside n l.0 l.1))

    pub rows_shaped : WellFormed m → RowsAre (λ n. Whole ps m.temporaries) t → Rows m (rows_of t)
    rows_shaped w whole = record {
      each = each_row;
      wide = each_from _ (rows_of t) (λ k r a.
          let s = all_set w k (let h = at_within a in let e = each_row in omega arith) in
          let same : s.0 ≡ r = sym (row_told t k s.0 s.1) ∙ row_at (rows_of t) k r a in
          subst (λ (x : List ℕ). length x ≡ m.temporaries) same (whole k s.0 s.1).1);
    }
