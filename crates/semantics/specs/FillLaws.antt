-- What holds of filling.
use Rattle.std.specs.Prelude.{◌≡◌, ℕ, ◌<◌, ◌≤◌, ◌⊎◌, List, [], ◌∷◌, map, length, Some, Ok, Err}
use Rattle.semantics.specs.declared.refusal.Refusal.{Refusal}
use Rattle.semantics.specs.declared.refusal.Refusal.TheVariants.{Unreached}
use Rattle.semantics.specs.Check.{check_of}
use Rattle.semantics.specs.CheckLaws.{EntryKnown}
use Rattle.semantics.specs.Entries.{EntryDef, Agree, entry_in}
use Rattle.semantics.specs.Fill.{Table, Filled, max_sweeps, no_rows, fill_on, fill_of, row_or, with_table}
use Rattle.semantics.specs.FormLaws.{WellFormed}
use Rattle.semantics.specs.Methods.{Each, MethodDef}
use Rattle.semantics.specs.Passes.{RowFits, Path}
use Rattle.semantics.specs.Refusals.{told}
use Rattle.semantics.specs.Tree.{Tree}

-- a row for each label, of one class for each temporary; any class, present or not
pub record Rows (m : MethodDef) (rs : List (List ℕ)) : Type 0 where
  pub each : length rs ≡ length m.labels
  pub wide : Each (λ ts. length ts ≡ m.temporaries) rs

-- the method with these rows passes the check
abbrev pub PassesWith : List ℕ → List EntryDef → MethodDef → List (List ℕ) → Type 0
PassesWith ps es m rs = check_of ps es (with_table m (map Some rs)) ≡ Ok tt

-- row by row, each cell fits the cell at its place
pub data FitTable (ps : List ℕ) : List (List ℕ) → List (List ℕ) → Type 0 where
  none : FitTable ps [] []
  row : {ts us : List ℕ} {rs ss : List (List ℕ)} → RowFits ps ts us → FitTable ps rs ss → FitTable ps (ts ∷ rs) (us ∷ ss)

abbrev pub rows_of : Table → List (List ℕ)
rows_of t = map row_or t

-- a refusal of the check's own tests, 12 to 15
abbrev pub IsTest : Refusal → Type 0
IsTest e = (12 ≤ (told e).number) × ((told e).number ≤ 15)

abbrev pub Reached : MethodDef → ℕ → Type 0
Reached m p = Path m 0 p

pub record Filling (ps : List ℕ) (es : List EntryDef) (m : MethodDef) : Type 0 where
  -- the table that is written has a row for each label, and passes
  pub shaped : (f : Filled) → fill_of ps es m ≡ Ok f → Rows m (rows_of f.table)
  pub passes : (f : Filled) → fill_of ps es m ≡ Ok f → PassesWith ps es m (rows_of f.table)
  -- each cell of it fits that cell of every table that passes
  pub least : (f : Filled) → fill_of ps es m ≡ Ok f → (rs : List (List ℕ)) → Rows m rs → PassesWith ps es m rs → FitTable ps (rows_of f.table) rs
  -- where it refuses with 12 to 15 no table passes; it refuses with nothing else but 17
  pub justified : (e : Refusal) → fill_of ps es m ≡ Err e → IsTest e → (rs : List (List ℕ)) → Rows m rs → PassesWith ps es m rs → ⊥
  pub refuses : (e : Refusal) → fill_of ps es m ≡ Err e → IsTest e ⊎ ((p : ℕ) × (e ≡ Unreached p))
  -- 17 names the lowest point that has no path from point 0; where it fills, every point has one
  pub unreached : (p : ℕ) → fill_of ps es m ≡ Err (Unreached p) → (p < length m.code) × (Reached m p → ⊥) × ((q : ℕ) → q < p → Reached m q)
  pub reached : (f : Filled) → fill_of ps es m ≡ Ok f → (p : ℕ) → p < length m.code → Reached m p
  -- it ends: at most 913 sweeps, and more would not be made
  pub bounded : (f : Filled) → fill_of ps es m ≡ Ok f → (0 < f.sweeps) × (f.sweeps ≤ max_sweeps)
  pub ends : (n : ℕ) → max_sweeps ≤ n → fill_on ps es m n 0 (no_rows m) ≡ fill_of ps es m

-- for every tree and every set of rows whose signatures agree, the method among them
abbrev pub FillingHolds : Type 0
FillingHolds =
    (ps : List ℕ) (es : List EntryDef) (m : MethodDef)
    → Tree ps → Each (EntryKnown ps) es → Agree ps es → EntryKnown ps (entry_in m)
    → WellFormed m → 0 < length m.code → length m.labels ≤ 16 → m.temporaries ≤ 8
    → Filling ps es m
