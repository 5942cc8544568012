-- What the rows, tables and sweeps of the code mean.
use Rattle.std.specs.Prelude.{ℕ, Bool, true, not, List, map, Some, None, Ok, Err, Option, Result}
use Rattle.semantics.specs.declared.array_vec.ArrayVec.{ArrayVec}
use Rattle.semantics.specs.declared.refusal.Refusal.{Refusal}
use Rattle.semantics.specs.Check.{tested_at, carried}
use Rattle.semantics.specs.Entries.{EntryDef}
use Rattle.semantics.specs.Fill as fill
use Rattle.semantics.specs.Items.{items_of}
use Rattle.semantics.specs.Methods.{Op, MethodDef}
use Rattle.semantics.specs.NewRows.{same_list}
use Rattle.semantics.specs.Reading.{so}
use Rattle.semantics.specs.Tests.{own_tests, named_labels}
use Rattle.verifier.specs.Answers.{row_of}
use Rattle.filler.specs.declared.sweep.Sweep.{Sweep}

abbrev pub Row : Type 0
Row = ArrayVec ℕ 8

abbrev pub table_of : ArrayVec (Option Row) 16 → fill.Table
table_of t = map row_of (items_of t)

abbrev pub sweep_meaning : Sweep → fill.Sweep
sweep_meaning s = fill.sweeping (table_of s.table) s.altered s.missed

-- whether a label's row is another than before
abbrev pub differs : Option (List ℕ) → List ℕ → Bool
differs None ts = true
differs (Some r) ts = not (same_list r ts)

-- the row behind a point, and where the sweep stands there
pub record Behind : Type 0 where
  pub row : Option (List ℕ)
  pub sweep : fill.Sweep

abbrev pub behind : Option (List ℕ) → fill.Sweep → Behind
behind r s = record { row = r; sweep = s }

abbrev pub behind_as : Result (Option Row) Refusal → fill.Sweep → Result Behind Refusal
behind_as (Ok r) s = Ok (behind (row_of r) s)
behind_as (Err e) s = Err e

-- the operation o at the point p, by the row there
abbrev pub visited : List ℕ → List EntryDef → MethodDef → ℕ → Option (List ℕ) → fill.Sweep → Op → Result Behind Refusal
visited ps es m p None s o = Ok (behind None (fill.passed_over p s))
visited ps es m p (Some ts) s o = so (tested_at p (own_tests ps es m ts o)) (λ us. Ok (behind (carried o us) (fill.comes_to ps ts (named_labels o) s)))
