-- The rules for a new method row.
use Rattle.std.specs.Prelude.{ℕ, ◌+◌, Bool, true, false, not, ◌&&◌, ◌||◌, List, [], ◌∷◌, ◌++◌, Ok, ◌==◌, nat_le, nat_lt}
use Rattle.semantics.specs.declared.refusal.Capacity.TheVariants.{Rows, Points}
use Rattle.semantics.specs.declared.refusal.Refusal.TheVariants.{ClassAbsent, Full, NameTaken, SignatureDiffers}
use Rattle.semantics.specs.Entries.{EntryDef}
use Rattle.semantics.specs.Form.{Formed, must}
use Rattle.semantics.specs.Methods.{LabelDef}
use Rattle.semantics.specs.Reading.{so}
use Rattle.semantics.specs.Tree.{present, fits}

abbrev pub max_rows : ℕ
max_rows = 64

abbrev pub max_points : ℕ
max_points = 1024

-- 8: the classes that are named are present; the first of these has the place k
abbrev pub classes_present : List ℕ → ℕ → List ℕ → Formed
classes_present ps k [] = Ok tt
classes_present ps k (c ∷ cs) = so (must (present ps c) (ClassAbsent k)) (λ _. classes_present ps (k + 1) cs)

-- the classes that a signature names, and those of the label rows, in their order as written
abbrev pub entry_classes : EntryDef → List ℕ
entry_classes e = e.class ∷ (e.arguments ++ e.result ∷ [])

abbrev pub row_classes : List LabelDef → List ℕ
row_classes [] = []
row_classes (l ∷ ls) = l.row ++ row_classes ls

-- 10: no row has that name on that class
abbrev pub taken : EntryDef → List EntryDef → Bool
taken e [] = false
taken e (f ∷ fs) = (f.name == e.name && f.class == e.class) || taken e fs

abbrev pub same_list : List ℕ → List ℕ → Bool
same_list [] [] = true
same_list [] (y ∷ ys) = false
same_list (x ∷ xs) [] = false
same_list (x ∷ xs) (y ∷ ys) = x == y && same_list xs ys

abbrev pub same_signature : EntryDef → EntryDef → Bool
same_signature e f = same_list e.arguments f.arguments && e.result == f.result

-- 11: rows of that name on a class above or below have the same signature; the first row has the number i
abbrev pub clashes : List ℕ → EntryDef → EntryDef → Bool
clashes ps e f = f.name == e.name && ((fits ps f.class e.class || fits ps e.class f.class) && not (same_signature f e))

abbrev pub agrees : List ℕ → EntryDef → ℕ → List EntryDef → Formed
agrees ps e i [] = Ok tt
agrees ps e i (f ∷ fs) = so (must (not (clashes ps e f)) (SignatureDiffers i)) (λ _. agrees ps e (i + 1) fs)

-- 8, 10 and 11 for the row e, where it names the classes cs
abbrev pub entry_rules : List ℕ → List EntryDef → EntryDef → List ℕ → Formed
entry_rules ps es e cs =
    so (classes_present ps 0 cs) (λ _.
    so (must (not (taken e es)) NameTaken) (λ _.
    agrees ps e 0 es))

-- 9: there is room for one row more, and for its points beside those that are there
abbrev pub room_for : ℕ → ℕ → ℕ → Formed
room_for rows points more = so (must (nat_lt rows max_rows) (Full Rows)) (λ _. must (nat_le (points + more) max_points) (Full Points))
