-- The check finds no fault exactly when the label table passes.
use Rattle.std.proofs.Common.{ℕ, List, arith}
use Rattle.std.proofs.lemmas.Result.{MatchResult-at_ok}
use Rattle.semantics.specs.declared.refusal.Refusal.{Refusal}
use Rattle.semantics.specs.Check.{zeros, check_of}
use Rattle.semantics.specs.CheckLaws.{CheckIsExact, FirstMisfit, falls, breaks}
use Rattle.semantics.specs.Entries.{EntryDef}
use Rattle.semantics.specs.FormLaws.{WellFormed}
use Rattle.semantics.specs.Lists.{At}
use Rattle.semantics.specs.Methods.{Op, LabelDef, MethodDef}
use Rattle.semantics.specs.Passes.{RowFits, LabelAt, Arrives, first, behind, Passes}
use Rattle.semantics.specs.Tree.{Tree}
use Rattle.semantics.proofs.CheckFirst.{Point, AllKept, check_told}
use Rattle.semantics.proofs.ItemPlaces.{at_within, within_at}
use Rattle.semantics.proofs.Searches.{ok_unless}

module _ (ps : List ℕ) (t : Tree ps) (es : List EntryDef) (m : MethodDef) (w : WellFormed m) where
  -- a label stands at a point of the method
  labelled_within : {p : ℕ} {l : LabelDef} → LabelAt m p l → (o : Op) × At m.code p o
  labelled_within {p} {l} x = within_at m.code p (let u = w.inside x.0 l x.1 in let e = x.2 in omega arith)

  points_pass : AllKept ps t es m w → Passes ps es m
  points_pass all = record {
    enters = λ l x. (point (labelled_within x)).0 (zeros m.temporaries) l first x;
    rules = λ p ts o r a. (point (o, a)).1 ts r;
    falls = λ p ts us o l r a h b x. (point (labelled_within x)).0 us l (behind r a h b) x;
  }
    where
      point : {p : ℕ} (x : (o : Op) × At m.code p o) → Point ps t es m w p x.0
      point {p} x = all p x.0 x.1 (at_within x.1)

  passing_falls : Passes ps es m → {p : ℕ} {ts : List ℕ} {l : LabelDef} → Arrives ps es m p ts → LabelAt m p l → RowFits ps ts l.row
  passing_falls pass {l = l} first y = pass.enters l y
  passing_falls pass {l = l} (behind {p} {ts} {us} {o} r a h b) y = pass.falls p ts us o l r a h b y

  no_misfit : Passes ps es m → (e : Refusal) → FirstMisfit ps es m e → ⊥
  no_misfit pass e (falls kept a x out) = out (passing_falls pass a x)
  no_misfit pass e (breaks {p} {ts} {o} kept fit r a out tells) = out (pass.rules p ts o r a)

pub check_is_exact : CheckIsExact
check_is_exact ps es m t w = (
  (λ e. points_pass ps t es m w (MatchResult-at_ok (λ _. AllKept ps t es m w) (FirstMisfit ps es m) tt e (check_told ps t es m w))),
  (λ pass. ok_unless (AllKept ps t es m w) (check_of ps es m) (check_told ps t es m w) (no_misfit ps t es m w pass)),
)
