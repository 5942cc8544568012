-- What holds of lookup and check.
use Rattle.std.specs.Prelude.{◌≡◌, ℕ, ◌<◌, ◌≤◌, List, [], ◌∷◌, ◌++◌, length, Some, None, Ok, Err}
use Rattle.semantics.specs.declared.refusal.Layer.TheVariants.{Check}
use Rattle.semantics.specs.declared.refusal.Refusal.{Refusal}
use Rattle.semantics.specs.declared.refusal.Refusal.TheVariants.{RowMisfit}
use Rattle.semantics.specs.Check.{falling_in, check_of}
use Rattle.semantics.specs.Entries.{EntryDef, Agree, Found, lookup, Nearest, NoneAbove, entry_in}
use Rattle.semantics.specs.FormLaws.{WellFormed}
use Rattle.semantics.specs.Lists.{At}
use Rattle.semantics.specs.Methods.{Each, Op, LabelDef, MethodDef}
use Rattle.semantics.specs.NewRows.{entry_classes, row_classes, entry_rules}
use Rattle.semantics.specs.Passes.{RowFits, LabelAt, Rule, RowAt, Arrives, Falls, Passes}
use Rattle.semantics.specs.Refusals.{told}
use Rattle.semantics.specs.Tree.{Tree}
use Rattle.semantics.specs.TreeLaws.{Exactly}

-- a lookup finds the row of that name on the class or on the nearest class above, or none where there is none
abbrev pub LookupIsNearest : Type 0
LookupIsNearest =
    (ps : List ℕ) (es : List EntryDef) (c m : ℕ) → Tree ps
    → ((f : Found) → Exactly (lookup ps es c m ≡ Some f) (Nearest ps es c m f)) × Exactly (lookup ps es c m ≡ None) (NoneAbove ps es c m)

-- the check finds no fault exactly when the label table passes
abbrev pub CheckIsExact : Type 0
CheckIsExact = (ps : List ℕ) (es : List EntryDef) (m : MethodDef) → Tree ps → WellFormed m → Exactly (check_of ps es m ≡ Ok tt) (Passes ps es m)

-- every class that rows and labels name is present
abbrev pub EntryKnown : List ℕ → EntryDef → Type 0
EntryKnown ps e = Each (λ c. c < length ps) (entry_classes e)

abbrev pub MethodKnown : List ℕ → MethodDef → Type 0
MethodKnown ps m = EntryKnown ps (entry_in m) × Each (λ c. c < length ps) (row_classes m.labels)

-- what passes on a card passes on each card grown from it by further classes and rows
abbrev pub GrowthKeepsPassing : Type 0
GrowthKeepsPassing =
    (ps qs : List ℕ) (es fs : List EntryDef) (m : MethodDef)
    → Tree ps → Tree (ps ++ qs) → Each (EntryKnown ps) es → Agree (ps ++ qs) (es ++ fs) → MethodKnown ps m
    → check_of ps es m ≡ Ok tt → check_of (ps ++ qs) (es ++ fs) m ≡ Ok tt

-- a row that the rules let in agrees with those that are there
abbrev pub RulesKeepAgreement : Type 0
RulesKeepAgreement =
    (ps : List ℕ) (es : List EntryDef) (e : EntryDef) → Tree ps → Agree ps es → entry_rules ps es e (entry_classes e) ≡ Ok tt → Agree ps (es ++ e ∷ [])

-- at every point before p, what comes there fits its label's row and the row there keeps its operation's rule
abbrev pub KeptBefore : List ℕ → List EntryDef → MethodDef → ℕ → Type 0
KeptBefore ps es m p = (q : ℕ) (o : Op) → At m.code q o → q < p → Falls ps es m q × ((ts : List ℕ) → RowAt ps es m q ts → Rule ps es m ts o)

-- e tells a misfit of the check, at the point p
abbrev pub ToldAt : ℕ → Refusal → Type 0
ToldAt p e = ((told e).layer ≡ Check) × ((told e).first ≡ p) × (12 ≤ (told e).number) × ((told e).number ≤ 16)

-- the first misfit: a row that falls in where it does not fit, or else a row that breaks its operation's rule; the points before keep all
pub data FirstMisfit (ps : List ℕ) (es : List EntryDef) (m : MethodDef) : Refusal → Type 0 where
  falls : {p : ℕ} {ts : List ℕ} {l : LabelDef} → KeptBefore ps es m p → Arrives ps es m p ts → LabelAt m p l → (RowFits ps ts l.row → ⊥) → FirstMisfit ps es m (RowMisfit p falling_in)
  breaks : {p : ℕ} {ts : List ℕ} {o : Op} {e : Refusal} → KeptBefore ps es m p → Falls ps es m p → RowAt ps es m p ts → At m.code p o → (Rule ps es m ts o → ⊥) → ToldAt p e → FirstMisfit ps es m e

-- the check tells the first misfit
abbrev pub CheckTellsTheFirst : Type 0
CheckTellsTheFirst = (ps : List ℕ) (es : List EntryDef) (m : MethodDef) (e : Refusal) → Tree ps → WellFormed m → check_of ps es m ≡ Err e → FirstMisfit ps es m e
