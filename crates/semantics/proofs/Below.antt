-- Sweeps stay below every table that passes: no test fails, and each row fits the row of that table.
use Rattle.std.proofs.Common.{◌≡◌, ℕ, ◌+◌, ◌<◌, false, cond, List, [], ◌∷◌, map, length, Some, None, Ok, Option, sym, refl, ap, ◌∙◌, subst, arith}
use Rattle.semantics.specs.declared.refusal.Refusal.TheVariants.{RowMisfit}
use Rattle.semantics.specs.Check.{arrived, at_row, carried, check_from, check_of, falling_in, label_at_point, point_tests, tested_at, zeros}
use Rattle.semantics.specs.CheckLaws.{EntryKnown}
use Rattle.semantics.specs.Entries.{EntryDef, Agree}
use Rattle.semantics.specs.Fill.{Table, row_in, join_rows, Sweep, sweeping, comes_to, falls_into, row_there, passed_over, sweep_from, sweep_of, with_table}
use Rattle.semantics.specs.FillLaws.{PassesWith}
use Rattle.semantics.specs.FormLaws.{WellFormed}
use Rattle.semantics.specs.Lists.{At}
use Rattle.semantics.specs.Methods.{Each, Op, LabelDef, MethodDef}
use Rattle.semantics.specs.Passes.{RowFits}
use Rattle.semantics.specs.Reading.{so}
use Rattle.semantics.specs.Tests.{then, classes_fit, labels_fit, first_label, label_row, named_labels, own_tests}
use Rattle.semantics.specs.Tree.{Tree}
use Rattle.semantics.proofs.Arrivals.{from_none, same_some}
use Rattle.semantics.proofs.Coming.{RowsAre, each_from, comes_to_are, comes_to_long, falls_are, falls_long}
use Rattle.semantics.proofs.GivenRows.{Marks, row_of, label_marked, row_given, own_same, labels_fit_lem}
use Rattle.semantics.proofs.ItemPlaces.{at_within, each_at}
use Rattle.semantics.proofs.Joining.{fits_further, joined_fits, whole_zeros}
use Rattle.semantics.proofs.LineTexts.{from_so}
use Rattle.semantics.proofs.Lowering.{own_lower}
use Rattle.semantics.proofs.OnlyTexts.{same_ok}
use Rattle.semantics.proofs.RuleTests.{decides_fit}
use Rattle.semantics.proofs.Sweeping.{Within, within_head, within_tail, within_all, label_here, label_here_lem, named_below, carried_some, row_here, row_there_lem, sweep_over, sweep_at}
use Rattle.semantics.proofs.Testing.{then_ok, must_ok, tested_ok}

-- a row that comes fits a row that is given
abbrev pub RowUnder : List ℕ → Option (List ℕ) → Option (List ℕ) → Type 0
RowUnder ps current given = (ts : List ℕ) → current ≡ Some ts → (us : List ℕ) × (given ≡ Some us) × RowFits ps ts us

none_under : (ps : List ℕ) (given : Option (List ℕ)) → RowUnder ps None given
none_under ps given ts e = from_none e

carried_under : (ps : List ℕ) (o : Op) (ws vs : List ℕ) → RowFits ps ws vs → RowUnder ps (carried o ws) (carried o vs)
carried_under ps o ws vs e ts c =
    let k = carried_some o ws ts c in
    (vs, ap (λ b. cond b None (Some vs)) k.0, subst (λ (xs : List ℕ). RowFits ps xs vs) k.1 e)

module _ (ps : List ℕ) (tree : Tree ps) (rs : List (List ℕ)) where
  -- the row of the label n fits that of rs
  abbrev pub Under : ℕ → List ℕ → Type 0
  Under n r = RowFits ps r (row_of rs n)

  under_joins : (n : ℕ) (r ts : List ℕ) → Under n r → Under n ts → Under n (join_rows ps r ts)
  under_joins n r ts a b = joined_fits ps tree a b

  abbrev Arrived : Option ℕ → Option (List ℕ) → Option (List ℕ) → Type 0
  Arrived label current c = ((n : ℕ) (ts : List ℕ) → label ≡ Some n → current ≡ Some ts → Under n ts) × ((t : Table) → RowsAre Under t → RowUnder ps (row_here t label current) c)

  -- what is current in the check stays above what is current in the sweep
  arrived_above : (p : ℕ) (label : Option ℕ) (x : Option LabelDef) → Marks (row_of rs) label x → (given current c : Option (List ℕ)) → arrived ps p given x ≡ Ok c → RowUnder ps current given → Arrived label current c
  arrived_above p None None marks given current c e under = ((λ n ts f g. from_none f), λ t all. subst (RowUnder ps current) (same_ok e) under)
  arrived_above p None (Some l) marks given current c e under = from_none (sym marks)
  arrived_above p (Some n) None marks given current c e under = from_none marks.1
  arrived_above p (Some n) (Some l) marks given current c e under = go given e under
    where
      row : l.row ≡ row_of rs n
      row = ap (λ (x : LabelDef). x.row) (same_some marks.1) ∙ marks.2

      there : Some l.row ≡ c → (t : Table) → RowsAre Under t → RowUnder ps (row_in t n) c
      there is t all ts f = (row_of rs n, sym is ∙ ap Some row, all n ts f)

      go : (given : Option (List ℕ)) → arrived ps p given (Some l) ≡ Ok c → RowUnder ps current given → Arrived (Some n) current c
      go None e under = ((λ k ts f g. from_none (under ts g).1), there (same_ok e))
      go (Some us) e under =
          let k = from_so _ (λ _. Ok (Some l.row)) c e in
          let fit = (decides_fit ps tree us l.row).0 (must_ok (classes_fit ps us l.row) (RowMisfit p falling_in) k.1) in (
            (λ j ts f g.
                let u = under ts g in
                let low : RowFits ps ts us = subst (RowFits ps ts) (sym (same_some u.1)) u.2 in
                let here : l.row ≡ row_of rs j = row ∙ ap (row_of rs) (same_some f) in
                subst (RowFits ps ts) here (fits_further ps low fit)),
            there (same_ok k.2),
          )

  module _ (es : List EntryDef) (known : Each (EntryKnown ps) es) (agree : Agree ps es) (m : MethodDef) (formed : WellFormed m) (each : length rs ≡ length m.labels) where
    abbrev Given : MethodDef
    Given = with_table m (map Some rs)

    abbrev Goes : ℕ → Option (List ℕ) → Sweep → List Op → Type 0
    Goes p current s os = (z : Sweep) × (sweep_from ps es m p current s os ≡ Ok z) × RowsAre Under z.table

    abbrev More : ℕ → List Op → Type 0
    More p os = (current : Option (List ℕ)) (s : Sweep) (given : Option (List ℕ)) → check_from ps es Given p given os ≡ Ok tt → length s.table ≡ length m.labels → RowsAre Under s.table → RowUnder ps current given → Goes p current s os

    module _ (p : ℕ) (o : Op) (os : List Op) (c : Option (List ℕ))
        (passed : at_row c (check_from ps es Given (p + 1) None os) (λ ts. so (tested_at p (point_tests ps es Given ts o)) (λ us. check_from ps es Given (p + 1) (carried o us) os)) ≡ Ok tt) where
      goes_past : (f : Sweep) → length f.table ≡ length m.labels → RowsAre Under f.table → More (p + 1) os → Goes (p + 1) None (passed_over p f) os
      goes_past f long under more = go c passed
        where
          go : (c : Option (List ℕ)) → at_row c (check_from ps es Given (p + 1) None os) (λ ts. so (tested_at p (point_tests ps es Given ts o)) (λ us. check_from ps es Given (p + 1) (carried o us) os)) ≡ Ok tt → Goes (p + 1) None (passed_over p f) os
          go None e = more None (passed_over p f) None e long under (none_under ps None)
          go (Some us) e = let k = from_so (tested_at p (point_tests ps es Given us o)) _ tt e in more None (passed_over p f) (carried o k.0) k.2 long under (none_under ps _)

      goes_in : At m.code p o → (f : Sweep) → length f.table ≡ length m.labels → RowsAre Under f.table → (ts us : List ℕ) → c ≡ Some us → RowFits ps ts us → More (p + 1) os
          → (ws : List ℕ) × (own_tests ps es m ts o ≡ Ok ws) × Goes (p + 1) (carried o ws) (comes_to ps ts (named_labels o) f) os
      goes_in at f long under ts us is low more =
          let d = subst (λ (x : Option (List ℕ)). at_row x (check_from ps es Given (p + 1) None os) (λ ts. so (tested_at p (point_tests ps es Given ts o)) (λ us. check_from ps es Given (p + 1) (carried o us) os)) ≡ Ok tt) is passed in
          let k = from_so (tested_at p (point_tests ps es Given us o)) (λ us. check_from ps es Given (p + 1) (carried o us) os) tt d in
          let a = then_ok (own_tests ps es Given us o) (λ vs. then (labels_fit ps Given.labels us (first_label o) (named_labels o)) (λ _. Ok vs)) (tested_ok p (point_tests ps es Given us o) k.1) in
          let b = then_ok (labels_fit ps Given.labels us (first_label o) (named_labels o)) (λ _. Ok a.0) a.2 in
          let fit = labels_fit_lem ps tree Given.labels us (first_label o) (named_labels o) b.1 in
          let w = own_lower ps tree es agree known m ts us a.0 o ((decides_fit ps tree ts us).1 low) (sym (own_same ps es m (map Some rs) us o) ∙ a.1) in
          let named : Each (λ n. n < length f.table) (named_labels o) = each_from _ (named_labels o) (λ i n x. let h = named_below m formed p o at i n x in omega arith) in
          let below : Each (λ n. Under n ts) (named_labels o) = each_from _ (named_labels o) (λ i n x. subst (RowFits ps ts) (row_given m.labels rs each n) (fits_further ps low (each_at (λ n. RowFits ps us (label_row Given.labels n)) fit x))) in (
            w.0,
            w.1,
            more (carried o w.0) (comes_to ps ts (named_labels o) f) (carried o k.0) k.2 (comes_to_long ps ts (named_labels o) f ∙ long)
                (comes_to_are ps Under under_joins ts (named_labels o) f named below under)
                (subst (λ (vs : List ℕ). RowUnder ps (carried o w.0) (carried o vs)) (same_ok b.2) (carried_under ps o w.0 a.0 ((decides_fit ps tree w.0 a.0).0 w.2))),
          )

    goes_on : (p : ℕ) (os : List Op) → Within m p os → More p os
    goes_on p [] within current s given e long under low = (s, refl, under)
    goes_on p (o ∷ os) within current s given e long under low =
        let k = from_so (arrived ps p given (label_at_point Given.labels p)) _ tt e in
        let x = arrived_above p (label_here m p) (label_at_point Given.labels p) (label_marked m rs each p) given current k.0 k.1 low in
        let in_table : (n : ℕ) → label_here m p ≡ Some n → n < length s.table = λ n f. (let h = at_within (label_here_lem m p n f).1 in omega arith) in
        let f = falls_into ps (label_here m p) current s in
        let fu = falls_are ps Under under_joins (label_here m p) current s in_table x.0 under in
        row (row_there (label_here m p) current f) refl
        (goes_past p o os k.0 k.2 f (falls_long ps (label_here m p) current s ∙ long) fu (goes_on (p + 1) os (within_tail m p o os within)))
        (λ ts is. let y = x.1 f.table fu ts (sym (row_there_lem (label_here m p) current f) ∙ is) in
        goes_in p o os k.0 k.2 (within_head m p o os within) f (falls_long ps (label_here m p) current s ∙ long) fu ts y.0 y.1 y.2 (goes_on (p + 1) os (within_tail m p o os within)))
      where
        row : (r : Option (List ℕ)) → row_there (label_here m p) current (falls_into ps (label_here m p) current s) ≡ r
            → Goes (p + 1) None (passed_over p (falls_into ps (label_here m p) current s)) os
            → ((ts : List ℕ) → row_there (label_here m p) current (falls_into ps (label_here m p) current s) ≡ Some ts
            → (ws : List ℕ) × (own_tests ps es m ts o ≡ Ok ws) × Goes (p + 1) (carried o ws) (comes_to ps ts (named_labels o) (falls_into ps (label_here m p) current s)) os)
            → Goes p current s (o ∷ os)
        row None is past in' = (past.0, sweep_over ps es m p current s o os is ∙ past.1, past.2)
        row (Some ts) is past in' =
            let g = in' ts is in
            let z = g.2 in
            (z.0, sweep_at ps es m p current s o os ts g.0 is g.1 ∙ z.1, z.2)

    pub sweep_under : PassesWith ps es m rs → (t : Table) → length t ≡ length m.labels → RowsAre Under t → (z : Sweep) × (sweep_of ps es m t ≡ Ok z) × RowsAre Under z.table
    unfolding check_of sweep_of
    sweep_under passes t long under =
        goes_on 0 m.code (within_all m) (Some (zeros m.temporaries)) (sweeping t false None) (Some (zeros m.temporaries)) passes long under
        (λ ts e. (zeros m.temporaries, refl, subst (λ (xs : List ℕ). RowFits ps xs (zeros m.temporaries)) (same_some e) (whole_zeros ps tree m.temporaries).0))
