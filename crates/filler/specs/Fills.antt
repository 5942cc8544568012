-- What filling a text answers, and what the filled methods and the rows of the code mean.
use Rattle.std.specs.Prelude.{◌≡◌, ℕ, List, [], ◌∷◌, ◌++◌, map, Ok, Result}
use Rattle.semantics.specs.declared.array_vec.ArrayVec.{ArrayVec}
use Rattle.semantics.specs.declared.entry.Entry.{Entry}
use Rattle.semantics.specs.declared.method.Method.{Method}
use Rattle.semantics.specs.declared.refusal.Refusal.{Refusal}
use Rattle.semantics.specs.Buffers.{written}
use Rattle.semantics.specs.CheckLaws.{EntryKnown}
use Rattle.semantics.specs.Entries.{EntryDef, Agree, entry_of, entry_in}
use Rattle.semantics.specs.FillCall.{FilledMethod, filled_from}
use Rattle.semantics.specs.FillLaws.{Filling}
use Rattle.semantics.specs.Form.{form_of}
use Rattle.semantics.specs.Items.{items_of}
use Rattle.semantics.specs.Methods.{Each, MethodDef, method_of}
use Rattle.semantics.specs.NewRows.{entry_classes, entry_rules}
use Rattle.semantics.specs.Printing.{method_text}
use Rattle.semantics.specs.Reading.{so, method_in}

abbrev pub filled_method : Method × ℕ → FilledMethod
filled_method x = record { method = method_of x.0; sweeps = x.1 }

abbrev pub entries_of : ArrayVec Entry 65 → List EntryDef
entries_of v = map entry_of (items_of v)

-- the length of the filled method's text, and the number of sweeps
abbrev pub filled_answer : List ℕ → List EntryDef → List ℕ → List ℕ → Result (ℕ × ℕ) Refusal
filled_answer ps es t buf = so (filled_from ps es t) (λ f. so (written (method_text f.method) buf) (λ n. Ok (n, f.sweeps)))

-- the laws of filling, for the method that a text says, on a card whose rows name present classes and agree
abbrev pub FillsLawfully : List ℕ → List EntryDef → List ℕ → Type 0
FillsLawfully ps es t =
    (m : MethodDef) → method_in t ≡ Ok m → form_of m ≡ Ok tt → entry_rules ps es (entry_in m) (entry_classes (entry_in m)) ≡ Ok tt
    → Each (EntryKnown ps) es → Agree ps es → Filling ps (es ++ entry_in m ∷ []) m
