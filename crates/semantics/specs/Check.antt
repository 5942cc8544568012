-- The load-time check: the points in rising order with a current row, and the first fault.
use Rattle.std.specs.Prelude.{ℕ, ◌+◌, cond, List, [], ◌∷◌, replicate, Some, None, Ok, Err, Option, Result, ◌==◌}
use Rattle.semantics.specs.declared.misfit.Misfit.{Misfit}
use Rattle.semantics.specs.declared.misfit.Misfit.TheVariants as misfit
use Rattle.semantics.specs.declared.refusal.Refusal.{Refusal}
use Rattle.semantics.specs.declared.refusal.Refusal.TheVariants.{NoRow, Argument, ResultClass, Condition, RowMisfit}
use Rattle.semantics.specs.Entries.{EntryDef}
use Rattle.semantics.specs.Form.{Formed, must, leaves}
use Rattle.semantics.specs.Methods.{Op, LabelDef, MethodDef}
use Rattle.semantics.specs.Reading.{so}
use Rattle.semantics.specs.Tests.{Tested, then, classes_fit, own_tests, named_labels, first_label, labels_fit}

-- a misfit at the point p, as the check tells it
abbrev pub misfit_at : ℕ → Misfit → Refusal
misfit_at p misfit.NoRow = NoRow p
misfit_at p (misfit.Argument k) = Argument p k
misfit_at p misfit.ResultClass = ResultClass p
misfit_at p misfit.Condition = Condition p
misfit_at p (misfit.Row k) = RowMisfit p k

abbrev pub tested_at : {X : Type 0} → ℕ → Tested X → Result X Refusal
tested_at p (Ok x) = Ok x
tested_at p (Err e) = Err (misfit_at p e)

-- the label of a point
abbrev pub label_at_point : List LabelDef → ℕ → Option LabelDef
label_at_point [] p = None
label_at_point (l ∷ ls) p = cond (l.point == p) (Some l) (label_at_point ls p)

-- the operand number of a row that falls into a labelled point
abbrev pub falling_in : ℕ
falling_in = 15

-- the row at the point p: a row that comes there has to fit the label's, which is then current
abbrev pub arrived : List ℕ → ℕ → Option (List ℕ) → Option LabelDef → Result (Option (List ℕ)) Refusal
arrived ps p current None = Ok current
arrived ps p None (Some l) = Ok (Some l.row)
arrived ps p (Some ts) (Some l) = so (must (classes_fit ps ts l.row) (RowMisfit p falling_in)) (λ _. Ok (Some l.row))

-- what is done at a row, and where there is none
abbrev pub at_row : {X Y : Type 0} → Option X → Y → (X → Y) → Y
at_row (Some x) y f = f x
at_row None y f = y

-- the row behind an operation; none behind a return or a jump
abbrev pub carried : Op → List ℕ → Option (List ℕ)
carried o ts = cond (leaves o) None (Some ts)

-- an operation's own tests, then its row against the labels that it names
abbrev pub point_tests : List ℕ → List EntryDef → MethodDef → List ℕ → Op → Tested (List ℕ)
point_tests ps es m ts o = then (own_tests ps es m ts o) (λ us. then (labels_fit ps m.labels ts (first_label o) (named_labels o)) (λ _. Ok us))

-- the operations from the point p on
abbrev pub check_from : List ℕ → List EntryDef → MethodDef → ℕ → Option (List ℕ) → List Op → Formed
check_from ps es m p current [] = Ok tt
check_from ps es m p current (o ∷ os) =
    so (arrived ps p current (label_at_point m.labels p)) (λ c.
    at_row c (check_from ps es m (p + 1) None os) (λ ts.
    so (tested_at p (point_tests ps es m ts o)) (λ us. check_from ps es m (p + 1) (carried o us) os)))

abbrev pub zeros : ℕ → List ℕ
zeros n = replicate n 0

-- the whole method, where es has it among the rows
unfoldable pub check_of : List ℕ → List EntryDef → MethodDef → Formed
check_of ps es m = check_from ps es m 0 (Some (zeros m.temporaries)) m.code
