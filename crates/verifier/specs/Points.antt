-- One point of the check.
use Rattle.std.specs.Prelude.{ℕ, List, Some, None, Ok, Option, Result}
use Rattle.semantics.specs.declared.refusal.Refusal.{Refusal}
use Rattle.semantics.specs.Check.{arrived, at_row, carried, label_at_point, point_tests, tested_at}
use Rattle.semantics.specs.Entries.{EntryDef}
use Rattle.semantics.specs.Methods.{Op, LabelDef, MethodDef}
use Rattle.semantics.specs.Reading.{so}

-- the row of a label, where there is one
abbrev pub labelled_row : Option LabelDef → Option (List ℕ)
labelled_row None = None
labelled_row (Some l) = Some l.row

-- the tests of the operation o at the point p with the row ts, and the row behind it
abbrev pub tested_row : List ℕ → List EntryDef → MethodDef → ℕ → Op → List ℕ → Result (Option (List ℕ)) Refusal
tested_row ps es m p o ts = so (tested_at p (point_tests ps es m ts o)) (λ us. Ok (carried o us))

-- the operation o at the point p, and the row behind it
abbrev pub checked : List ℕ → List EntryDef → MethodDef → ℕ → Option (List ℕ) → Op → Result (Option (List ℕ)) Refusal
checked ps es m p current o = so (arrived ps p current (label_at_point m.labels p)) (λ c. at_row c (Ok None) (tested_row ps es m p o))
