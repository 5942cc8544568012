-- One method, one text.
use Rattle.std.specs.Prelude.{◌≡◌, ℕ, List, Ok}
use Rattle.semantics.specs.Methods.{MethodDef, InRange}
use Rattle.semantics.specs.Printing.{method_text}
use Rattle.semantics.specs.Reading.{method_in}

-- what is written from a method in range is read back as that method
abbrev pub WrittenIsRead : Type 0
WrittenIsRead = (m : MethodDef) → InRange m → method_in (method_text m) ≡ Ok m

-- whatever is read was the written text of the method that came out
abbrev pub ReadWasWritten : Type 0
ReadWasWritten = (t : List ℕ) (m : MethodDef) → method_in t ≡ Ok m → (t ≡ method_text m) × InRange m
