-- Filling: sweeps over the points that join arriving rows into the labels' rows until one alters none.
use Rattle.std.specs.Prelude.{ℕ, zero, suc, ◌+◌, Bool, true, false, cond, not, ◌||◌, List, [], ◌∷◌, length, replicate, Some, None, Ok, Err, Option, Result, ◌==◌, slice_index_or, slice_set}
use Rattle.semantics.specs.declared.refusal.Refusal.{Refusal}
use Rattle.semantics.specs.declared.refusal.Refusal.TheVariants.{Unreached}
use Rattle.semantics.specs.Check.{tested_at, at_row, carried, zeros}
use Rattle.semantics.specs.Entries.{EntryDef}
use Rattle.semantics.specs.Methods.{Op, LabelDef, MethodDef}
use Rattle.semantics.specs.NewRows.{same_list}
use Rattle.semantics.specs.Reading.{so}
use Rattle.semantics.specs.Tests.{own_tests, named_labels}
use Rattle.semantics.specs.Tree.{join}

-- the labels' rows so far; a label that no row has come to has none
abbrev pub Table : Type 0
Table = List (Option (List ℕ))

abbrev pub row_in : Table → ℕ → Option (List ℕ)
row_in t n = slice_index_or t n None

-- two rows joined cell by cell
abbrev pub join_rows : List ℕ → List ℕ → List ℕ → List ℕ
join_rows ps [] ys = []
join_rows ps (x ∷ xs) [] = []
join_rows ps (x ∷ xs) (y ∷ ys) = join ps x y ∷ join_rows ps xs ys

-- a row after another came, and whether that altered it
abbrev pub joined_into : List ℕ → Option (List ℕ) → List ℕ → List ℕ
joined_into ps None ts = ts
joined_into ps (Some r) ts = join_rows ps r ts

abbrev pub alters : List ℕ → Option (List ℕ) → List ℕ → Bool
alters ps None ts = true
alters ps (Some r) ts = not (same_list r (join_rows ps r ts))

-- where a sweep stands: the rows, whether one was altered, and the lowest point passed over
pub record Sweep : Type 0 where
  pub table : Table
  pub altered : Bool
  pub missed : Option ℕ

abbrev pub sweeping : Table → Bool → Option ℕ → Sweep
sweeping t b q = record { table = t; altered = b; missed = q }

-- a row that comes to the label n, and to each of several
abbrev pub comes : List ℕ → List ℕ → ℕ → Sweep → Sweep
comes ps ts n s = sweeping (slice_set s.table n (Some (joined_into ps (row_in s.table n) ts))) (s.altered || alters ps (row_in s.table n) ts) s.missed

abbrev pub comes_to : List ℕ → List ℕ → List ℕ → Sweep → Sweep
comes_to ps ts [] s = s
comes_to ps ts (n ∷ ns) s = comes_to ps ts ns (comes ps ts n s)

-- the number of the label of a point, the first of ls having the number n
abbrev pub label_number : List LabelDef → ℕ → ℕ → Option ℕ
label_number [] n p = None
label_number (l ∷ ls) n p = cond (l.point == p) (Some n) (label_number ls (n + 1) p)

-- a current row falls into the label of a point, if there is one
abbrev pub falls_into : List ℕ → Option ℕ → Option (List ℕ) → Sweep → Sweep
falls_into ps None current s = s
falls_into ps (Some n) None s = s
falls_into ps (Some n) (Some ts) s = comes ps ts n s

-- the row at the point: the label's, where it has one
abbrev pub row_there : Option ℕ → Option (List ℕ) → Sweep → Option (List ℕ)
row_there None current s = current
row_there (Some n) current s = row_in s.table n

abbrev pub lowest : Option ℕ → ℕ → Option ℕ
lowest None p = Some p
lowest (Some q) p = Some q

abbrev pub passed_over : ℕ → Sweep → Sweep
passed_over p s = sweeping s.table s.altered (lowest s.missed p)

-- a sweep over the operations from the point p on
abbrev pub sweep_from : List ℕ → List EntryDef → MethodDef → ℕ → Option (List ℕ) → Sweep → List Op → Result Sweep Refusal
sweep_from ps es m p current s [] = Ok s
sweep_from ps es m p current s (o ∷ os) =
    at_row (row_there (label_number m.labels 0 p) current (falls_into ps (label_number m.labels 0 p) current s))
    (sweep_from ps es m (p + 1) None (passed_over p (falls_into ps (label_number m.labels 0 p) current s)) os)
    (λ ts. so (tested_at p (own_tests ps es m ts o)) (λ us.
    sweep_from ps es m (p + 1) (carried o us) (comes_to ps ts (named_labels o) (falls_into ps (label_number m.labels 0 p) current s)) os))

unfoldable pub sweep_of : List ℕ → List EntryDef → MethodDef → Table → Result Sweep Refusal
sweep_of ps es m t = sweep_from ps es m 0 (Some (zeros m.temporaries)) (sweeping t false None) m.code

-- the filled table and the number of sweeps
pub record Filled : Type 0 where
  pub table : Table
  pub sweeps : ℕ

abbrev pub finished : ℕ → Sweep → Result Filled Refusal
finished k s = at_row s.missed (Ok (record { table = s.table; sweeps = k })) (λ p. Err (Unreached p))

-- at most n sweeps more, after k of them left the table t
unfoldable pub fill_on : List ℕ → List EntryDef → MethodDef → ℕ → ℕ → Table → Result Filled Refusal
fill_on ps es m zero k t = Err (Unreached 0)
fill_on ps es m (suc n) k t = so (sweep_of ps es m t) (λ s. cond s.altered (fill_on ps es m n (k + 1) s.table) (finished (k + 1) s))

-- 16 labels, each altered at most once by its first row and 7 times in each of 8 cells, and a last sweep that alters none
abbrev pub max_sweeps : ℕ
max_sweeps = 913

abbrev pub no_rows : MethodDef → Table
no_rows m = replicate (length m.labels) None

abbrev pub fill_of : List ℕ → List EntryDef → MethodDef → Result Filled Refusal
fill_of ps es m = fill_on ps es m max_sweeps 0 (no_rows m)

-- a method with the rows of a table in place of its own
abbrev pub row_or : Option (List ℕ) → List ℕ
row_or (Some ts) = ts
row_or None = []

abbrev pub with_rows : List LabelDef → Table → List LabelDef
with_rows [] t = []
with_rows (l ∷ ls) [] = record { point = l.point; row = [] } ∷ with_rows ls []
with_rows (l ∷ ls) (r ∷ t) = record { point = l.point; row = row_or r } ∷ with_rows ls t

abbrev pub with_table : MethodDef → Table → MethodDef
with_table m t = record {
  class = m.class;
  name = m.name;
  arguments = m.arguments;
  result = m.result;
  temporaries = m.temporaries;
  labels = with_rows m.labels t;
  code = m.code;
}
