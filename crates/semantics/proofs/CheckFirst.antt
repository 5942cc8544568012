-- The walk of the check: the points that it passes keep all, and the fault that it tells is the first.
use Rattle.std.proofs.Common.{◌≡◌, ℕ, suc, ◌+◌, ◌<◌, ◌≤◌, List, [], ◌∷◌, length, Some, None, Ok, Err, Option, sym, refl, subst, ⊎_elim, add-zero, zero-add, arith, MatchResult}
use Rattle.std.proofs.lemmas.Result.{MatchResult-at_err, MatchResult-weaker}
use Rattle.std.proofs.lemmas.Bool.{cases_lt}
use Rattle.semantics.specs.declared.misfit.Misfit.{Misfit}
use Rattle.semantics.specs.declared.misfit.Misfit.TheVariants as misfit
use Rattle.semantics.specs.Check.{misfit_at, label_at_point, arrived, at_row, carried, point_tests, tested_at, check_from, zeros, check_of}
use Rattle.semantics.specs.CheckLaws.{KeptBefore, ToldAt, FirstMisfit, falls, breaks, CheckTellsTheFirst}
use Rattle.semantics.specs.Entries.{EntryDef}
use Rattle.semantics.specs.FormLaws.{WellFormed}
use Rattle.semantics.specs.Lists.{At, here, there, Throughout}
use Rattle.semantics.specs.Methods.{Op, MethodDef}
use Rattle.semantics.specs.Passes.{Rule, RowAt, Arrives, Falls}
use Rattle.semantics.specs.Reading.{so}
use Rattle.semantics.specs.Tests.{Tested}
use Rattle.semantics.specs.Tree.{Tree}
use Rattle.semantics.proofs.Arrivals.{from_none, same_some, Tells, arrived_told, tells_none, tells_carried, tells_first}
use Rattle.semantics.proofs.RuleTests.{rule_told}
use Rattle.semantics.proofs.Searches.{same_at}
use Rattle.semantics.proofs.Testing.{so_tells}

misfit_told_lem : (p : ℕ) (d : Misfit) → ToldAt p (misfit_at p d)
misfit_told_lem p misfit.NoRow = (refl, refl, omega arith, omega arith)
misfit_told_lem p (misfit.Argument k) = (refl, refl, omega arith, omega arith)
misfit_told_lem p misfit.ResultClass = (refl, refl, omega arith, omega arith)
misfit_told_lem p misfit.Condition = (refl, refl, omega arith, omega arith)
misfit_told_lem p (misfit.Row k) = (refl, refl, omega arith, omega arith)

tested_told : {X : Type 0} (P : X → Type 0) (Q : Type 0) (p : ℕ) (t : Tested X) → MatchResult t P (λ _. Q) → MatchResult (tested_at p t) P (λ e. Q × ToldAt p e)
tested_told P Q p (Ok x) c = c
tested_told P Q p (Err d) c = (c, misfit_told_lem p d)

module _ (ps : List ℕ) (t : Tree ps) (es : List EntryDef) (m : MethodDef) (w : WellFormed m) where
  abbrev pub Point : ℕ → Op → Type 0
  Point p o = Falls ps es m p × ((ts : List ℕ) → RowAt ps es m p ts → Rule ps es m ts o)

  kept_next : (p : ℕ) (o : Op) → At m.code p o → KeptBefore ps es m p → Point p o → KeptBefore ps es m (p + 1)
  kept_next p o a kept now q x b h = ⊎_elim
      (λ (less : q < p). kept q x b less)
      (λ (last : p ≤ q). let e : q ≡ p = omega arith in let s : o ≡ x = same_at a (rw e at b) in subst (Point q) s (rw e now))
      (cases_lt q p)

  -- every point keeps all
  abbrev pub AllKept : Type 0
  AllKept = KeptBefore ps es m (length m.code)

  -- the operation o at p, where the operations os behind it are told whatever comes there
  module _ (p : ℕ) (o : Op) (os : List Op) (here-is : At m.code p o) (kept : KeptBefore ps es m p)
      (rest : KeptBefore ps es m (p + 1) → (d : Option (List ℕ)) → Tells (Arrives ps es m (p + 1)) d → MatchResult (check_from ps es m (p + 1) d os) (λ _. AllKept) (FirstMisfit ps es m)) where
    row_told : (d : Option (List ℕ)) → Falls ps es m p × Tells (RowAt ps es m p) d
        → MatchResult (at_row d (check_from ps es m (p + 1) None os) (λ ts. so (tested_at p (point_tests ps es m ts o)) (λ us. check_from ps es m (p + 1) (carried o us) os))) (λ _. AllKept) (FirstMisfit ps es m)
    row_told None x = rest (kept_next p o here-is kept (x.0, λ ts r. from_none (x.1.only ts r))) None (tells_none ps t es m w p x.1)
    row_told (Some ts) x = so_tells (λ _. AllKept) (FirstMisfit ps es m) (tested_at p (point_tests ps es m ts o)) _
        (MatchResult-weaker (tested_at p (point_tests ps es m ts o)) (tested_told _ _ p (point_tests ps es m ts o) (rule_told ps t es m ts o)) (λ us y. y) (λ e y. breaks kept x.0 (x.1.is ts refl) here-is y.0 y.1))
        (λ us y. rest (kept_next p o here-is kept (x.0, λ vs r. let e : ts ≡ vs = same_some (x.1.only vs r) in rw e at y.0)) (carried o us) (tells_carried ps t es m w p ts us o x.1 here-is y.1))

    point_told : (c : Option (List ℕ)) → Tells (Arrives ps es m p) c → MatchResult (check_from ps es m p c (o ∷ os)) (λ _. AllKept) (FirstMisfit ps es m)
    point_told c tells = so_tells (λ _. AllKept) (FirstMisfit ps es m) (arrived ps p c (label_at_point m.labels p)) _
        (MatchResult-weaker (arrived ps p c (label_at_point m.labels p)) (arrived_told ps t es m w p c tells) (λ d x. x) (λ e x. subst (FirstMisfit ps es m) (sym x.5) (falls kept x.2 x.3 x.4)))
        row_told

  -- the operations os from the point p on, to the last
  from_told : (p : ℕ) (os : List Op) → p + length os ≡ length m.code → Throughout (λ k o. At m.code (p + k) o) os → KeptBefore ps es m p → (c : Option (List ℕ)) → Tells (Arrives ps es m p) c → MatchResult (check_from ps es m p c os) (λ _. AllKept) (FirstMisfit ps es m)
  from_told p [] h within kept c tells = λ q o a less. kept q o a (omega arith)
  from_told p (o ∷ os) h within kept c tells = point_told p o os (rw add-zero at (within 0 o here)) kept
      (from_told (p + 1) os (omega arith) (λ k x a. let e : p + 1 + k ≡ p + suc k = omega arith in rw e (within (suc k) x (there a)))) c tells

  pub check_told : MatchResult (check_of ps es m) (λ _. AllKept) (FirstMisfit ps es m)
  unfolding check_of
  check_told = from_told 0 m.code (zero-add _) (λ k o a. rw zero-add a) (λ q o a less. absurd (omega arith)) (Some (zeros m.temporaries)) (tells_first ps t es m w)

pub check_tells_the_first : CheckTellsTheFirst
check_tells_the_first ps es m e t w is = MatchResult-at_err (λ _. AllKept ps t es m w) (FirstMisfit ps es m) e is (check_told ps t es m w)
