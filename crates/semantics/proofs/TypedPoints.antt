-- What a check that was passed says at a point: of its operation, of the point behind it, and of the points of labels.
use Rattle.std.proofs.Common.{◌≡◌, ℕ, zero, suc, ◌+◌, ◌<◌, true, eqb, List, [], ◌∷◌, length, drop, Some, None, Ok, Option, sym, refl, ap, ◌∙◌, subst, arith}
use Rattle.std.proofs.lemmas.Bool.{cond-true, cond-false, eq-eqb, ne_eqb}
use Rattle.semantics.specs.declared.misfit.Misfit.TheVariants as misfit
use Rattle.semantics.specs.declared.refusal.Refusal.TheVariants.{RowMisfit}
use Rattle.semantics.specs.declared.value.Value.{Value}
use Rattle.semantics.specs.Check.{label_at_point, falling_in, arrived, at_row, carried, point_tests, tested_at, check_from}
use Rattle.semantics.specs.Entries.{EntryDef}
use Rattle.semantics.specs.Form.{must}
use Rattle.semantics.specs.Lists.{At, here, there}
use Rattle.semantics.specs.Methods.{Op, LabelDef, MethodDef}
use Rattle.semantics.specs.Reading.{so}
use Rattle.semantics.specs.Runs.{at_label}
use Rattle.semantics.specs.Tests.{classes_fit}
use Rattle.semantics.specs.Tree.{Tree}
use Rattle.semantics.proofs.Arrivals.{from_none, same_some}
use Rattle.semantics.proofs.LineTexts.{so_ok, from_so}
use Rattle.semantics.proofs.Lowering.{classes_trans}
use Rattle.semantics.proofs.OnlyTexts.{same_ok}
use Rattle.semantics.proofs.Testing.{demand_pass, must_ok, must_pass, tested_ok}
use Rattle.semantics.proofs.TypedRows.{kinds, row_kinds}

-- points of labels rise: a label is the first at its point
pub label_first : (ls : List LabelDef) {i : ℕ} {l : LabelDef} → At ls i l → ((j : ℕ) (k : LabelDef) → At ls j k → j < i → k.point < l.point) → label_at_point ls l.point ≡ Some l
label_first [] a rise = elim a [ ]
label_first (l ∷ ls) here rise = cond-true (eqb l.point l.point) _ _ (eq-eqb l.point l.point refl)
label_first (k ∷ ls) {l = l} (there a) rise =
    cond-false (eqb k.point l.point) _ _ (ne_eqb k.point l.point (λ e. let h = rise 0 k here (omega arith) in omega arith))
    ∙ label_first ls a (λ j x b h. rise (suc j) x (there b) (omega arith))

module _ (ps : List ℕ) (es : List EntryDef) (m : MethodDef) where
  -- a row ts at the operation o passes its tests, and what is left of the check
  pub record Passed (p : ℕ) (ts : List ℕ) (o : Op) (os : List Op) : Type 0 where
    pub next : List ℕ
    pub tests : point_tests ps es m ts o ≡ Ok next
    pub rest : check_from ps es m (p + 1) (carried o next) os ≡ Ok tt

  passed_at : (p : ℕ) (ts : List ℕ) (o : Op) (os : List Op) → so (tested_at p (point_tests ps es m ts o)) (λ us. check_from ps es m (p + 1) (carried o us) os) ≡ Ok tt → Passed p ts o os
  passed_at p ts o os e =
      let s = from_so (tested_at p (point_tests ps es m ts o)) _ tt e in
      record { next = s.0; tests = tested_ok p (point_tests ps es m ts o) s.1; rest = s.2 }

  -- a row that comes to a point
  pub check_passed : (p : ℕ) (us : List ℕ) (o : Op) (os : List Op) → check_from ps es m p (Some us) (o ∷ os) ≡ Ok tt
      → (ts : List ℕ) × (arrived ps p (Some us) (label_at_point m.labels p) ≡ Ok (Some ts)) × Passed p ts o os
  check_passed p us o os e =
      let s = from_so (arrived ps p (Some us) (label_at_point m.labels p)) _ tt e in go (label_at_point m.labels p) s.0 s.1 s.2
    where
      go : (l : Option LabelDef) (c : Option (List ℕ)) → arrived ps p (Some us) l ≡ Ok c
          → at_row c (check_from ps es m (p + 1) None os) (λ ts. so (tested_at p (point_tests ps es m ts o)) (λ us. check_from ps es m (p + 1) (carried o us) os)) ≡ Ok tt
          → (ts : List ℕ) × (arrived ps p (Some us) l ≡ Ok (Some ts)) × Passed p ts o os
      go l (Some ts) a b = (ts, a, passed_at p ts o os b)
      go None None a b = from_none (sym (same_ok a))
      go (Some l) None a b = from_none (sym (same_ok (from_so (must (classes_fit ps us l.row) (RowMisfit p falling_in)) _ None a).2))

  -- at a label only its row counts
  label_row_lem : (p : ℕ) (c : Option (List ℕ)) (l : LabelDef) (d : Option (List ℕ)) → arrived ps p c (Some l) ≡ Ok d → d ≡ Some l.row
  label_row_lem p None l d e = sym (same_ok e)
  label_row_lem p (Some ts) l d e = sym (same_ok (from_so (must (classes_fit ps ts l.row) (RowMisfit p falling_in)) _ d e).2)

  label_here_lem : (p : ℕ) (c : Option (List ℕ)) (ts : List ℕ) (l : LabelDef) (o : Op) (os : List Op) → label_at_point m.labels p ≡ Some l → classes_fit ps ts l.row ≡ true
      → check_from ps es m p c (o ∷ os) ≡ Ok tt → check_from ps es m p (Some ts) (o ∷ os) ≡ Ok tt
  label_here_lem p c ts l o os at fit e =
      let s = from_so (arrived ps p c (label_at_point m.labels p)) _ tt e in
      let d : s.0 ≡ Some l.row = label_row_lem p c l s.0 (ap (arrived ps p c) (sym at) ∙ s.1) in
      so_ok _ (ap (arrived ps p (Some ts)) at ∙ so_ok _ (must_pass (RowMisfit p falling_in) fit))
      ∙ ap (λ x. at_row x (check_from ps es m (p + 1) None os) (λ us. so (tested_at p (point_tests ps es m us o)) (λ vs. check_from ps es m (p + 1) (carried o vs) os))) (sym d) ∙ s.2

  -- a row that fits a label's goes on from the label's point
  pub label_passes : (p k q : ℕ) (c : Option (List ℕ)) (ts : List ℕ) (l : LabelDef) (os : List Op) → q ≡ p + k → k < length os → label_at_point m.labels q ≡ Some l → classes_fit ps ts l.row ≡ true
      → check_from ps es m p c os ≡ Ok tt → check_from ps es m q (Some ts) (drop k os) ≡ Ok tt
  label_passes p k q c ts l [] n h at fit e = absurd (omega arith)
  label_passes p zero q c ts l (o ∷ os) n h at fit e = label_here_lem q c ts l o os at fit (subst (λ x. check_from ps es m x c (o ∷ os) ≡ Ok tt) (omega arith) e)
  label_passes p (suc k) q c ts l (o ∷ os) n h at fit e =
      let s = from_so (arrived ps p c (label_at_point m.labels p)) _ tt e in
      let r = behind s.0 s.2 in label_passes (p + 1) k q r.0 ts l os (omega arith) (omega arith) at fit r.1
    where
      behind : (d : Option (List ℕ)) → at_row d (check_from ps es m (p + 1) None os) (λ ts. so (tested_at p (point_tests ps es m ts o)) (λ us. check_from ps es m (p + 1) (carried o us) os)) ≡ Ok tt
          → (c : Option (List ℕ)) × (check_from ps es m (p + 1) c os ≡ Ok tt)
      behind None e = (None, e)
      behind (Some us) e = let r = passed_at p us o os e in (carried o r.next, r.rest)

-- values that fit the row that comes to a point pass the label there, and fit the row of the point
module _ (ps : List ℕ) (t : Tree ps) where
  pub arrived_fits : (p : ℕ) (vs : List Value) (us ts : List ℕ) (l : Option LabelDef) → arrived ps p (Some us) l ≡ Ok (Some ts) → classes_fit ps (kinds vs) us ≡ true
      → (at_label ps vs l ≡ Ok tt) × (classes_fit ps (kinds vs) ts ≡ true)
  arrived_fits p vs us ts None e h = (refl, (let s : us ≡ ts = same_some (same_ok e) in rw s at h))
  arrived_fits p vs us ts (Some l) e h =
      let s = from_so (must (classes_fit ps us l.row) (RowMisfit p falling_in)) _ (Some ts) e in
      let fit : classes_fit ps (kinds vs) l.row ≡ true = classes_trans ps t (kinds vs) us l.row h (must_ok _ (RowMisfit p falling_in) s.1) in
      let same : l.row ≡ ts = same_some (same_ok s.2) in
      (demand_pass (misfit.Row falling_in) (row_kinds ps vs l.row ∙ fit), rw same at fit)
