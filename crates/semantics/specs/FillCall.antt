-- What filling a text answers, and what the buffer holds after it.
use Rattle.std.specs.Prelude.{◌≡◌, ℕ, List, [], ◌∷◌, ◌++◌, length, Ok, Err, Result, nat_le}
use Rattle.semantics.specs.declared.refusal.Capacity.TheVariants.{Rows}
use Rattle.semantics.specs.declared.refusal.Refusal.{Refusal}
use Rattle.semantics.specs.declared.refusal.Refusal.TheVariants.{Full}
use Rattle.semantics.specs.Buffers.{fitted, filled}
use Rattle.semantics.specs.Entries.{EntryDef, entry_in}
use Rattle.semantics.specs.Fill.{Filled, fill_of, with_table}
use Rattle.semantics.specs.FillLaws.{Filling}
use Rattle.semantics.specs.Form.{must, form_of}
use Rattle.semantics.specs.Methods.{MethodDef}
use Rattle.semantics.specs.NewRows.{max_rows, entry_classes, entry_rules}
use Rattle.semantics.specs.Printing.{method_text}
use Rattle.semantics.specs.Reading.{so, method_in}

-- a method with its rows filled, and the number of sweeps
pub record FilledMethod : Type 0 where
  pub method : MethodDef
  pub sweeps : ℕ

abbrev pub filled_with : MethodDef → Filled → FilledMethod
filled_with m f = record { method = with_table m f.table; sweeps = f.sweeps }

-- the method filled among the rows es
abbrev pub filled_among : List ℕ → List EntryDef → MethodDef → Result FilledMethod Refusal
filled_among ps es m = so (fill_of ps es m) (λ f. Ok (filled_with m f))

-- the rows es with a new one behind them; a card has at most 64
abbrev pub among_rows : List EntryDef → EntryDef → Result (List EntryDef) Refusal
among_rows es e = so (must (nat_le (length es) max_rows) (Full Rows)) (λ _. Ok (es ++ e ∷ []))

-- the method that a text says, filled among the rows es and its own
abbrev pub filled_from : List ℕ → List EntryDef → List ℕ → Result FilledMethod Refusal
filled_from ps es t =
    so (method_in t) (λ m.
    so (form_of m) (λ _.
    so (entry_rules ps es (entry_in m) (entry_classes (entry_in m))) (λ _.
    so (among_rows es (entry_in m)) (λ known. filled_among ps known m))))

-- the length of the filled method's text, and the number of sweeps, where the lent buffer has that room
abbrev pub filled_answer : List ℕ → List EntryDef → List ℕ → ℕ → Result (ℕ × ℕ) Refusal
filled_answer ps es t room = so (filled_from ps es t) (λ f. so (fitted (method_text f.method) room) (λ n. Ok (n, f.sweeps)))

abbrev pub into_buffer : Result FilledMethod Refusal → List ℕ → List ℕ
into_buffer (Ok f) buf = filled (method_text f.method) buf
into_buffer (Err e) buf = buf

abbrev pub filled_into : List ℕ → List EntryDef → List ℕ → List ℕ → List ℕ
filled_into ps es t buf = into_buffer (filled_from ps es t) buf

-- the laws of filling, for the method that a text says, where the rules let it in
abbrev pub TextFillsLawfully : List ℕ → List EntryDef → List ℕ → Type 0
TextFillsLawfully ps es t =
    (m : MethodDef) → method_in t ≡ Ok m → form_of m ≡ Ok tt → entry_rules ps es (entry_in m) (entry_classes (entry_in m)) ≡ Ok tt
    → Filling ps (es ++ entry_in m ∷ []) m
