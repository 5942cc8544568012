-- Worked cases of the check and of filling: the method Countdown on the trial card.
use Rattle.std.specs.Prelude.{◌≡◌, ℕ, List, [], ◌∷◌, ◌++◌, pos, Some, Ok, Err, Result}
use Rattle.semantics.specs.declared.operation.Destination.TheVariants as destination
use Rattle.semantics.specs.declared.operation.Operand.TheVariants as operand
use Rattle.semantics.specs.declared.refusal.Refusal.{Refusal}
use Rattle.semantics.specs.declared.refusal.Refusal.TheVariants.{ResultClass, RowMisfit}
use Rattle.semantics.specs.Check.{check_of}
use Rattle.semantics.specs.CheckLaws.{EntryKnown, MethodKnown}
use Rattle.semantics.specs.Entries.{EntryDef, Agree, entry_in}
use Rattle.semantics.specs.Fill.{Filled, fill_of}
use Rattle.semantics.specs.Form.{Formed}
use Rattle.semantics.specs.FormLaws.{WellFormed}
use Rattle.semantics.specs.Methods.{Each, return, jump, jump_if, invoke, MethodDef}
use Rattle.semantics.specs.Passes.{Passes}
use Rattle.semantics.specs.Tree.{Tree}

-- class 3 beside Bool and Int, and three native rows on Int
abbrev pub trial_classes : List ℕ
trial_classes = 0 ∷ 0 ∷ 0 ∷ 0 ∷ []

abbrev pub trial_rows : List EntryDef
trial_rows =
    record { class = 2; name = 0; arguments = []; result = 2 }
    ∷ record { class = 2; name = 2; arguments = 2 ∷ []; result = 2 }
    ∷ record { class = 2; name = 5; arguments = 2 ∷ []; result = 1 } ∷ []

-- Countdown, with these rows at its two labels
abbrev pub countdown : List ℕ → List ℕ → MethodDef
countdown again done = record {
  class = 3;
  name = 200;
  arguments = 2 ∷ [];
  result = 2;
  temporaries = 2;
  labels = record { point = 1; row = again } ∷ record { point = 5; row = done } ∷ [];
  code =
      invoke (destination.Temporary 0) (operand.Local 1) 0 []
      ∷ invoke (destination.Temporary 1) (operand.Temporary 0) 5 (operand.Constant (pos 0) ∷ [])
      ∷ jump_if (operand.Temporary 1) 1
      ∷ invoke (destination.Temporary 0) (operand.Temporary 0) 2 (operand.Constant (pos 4) ∷ [])
      ∷ jump 0
      ∷ return (operand.Temporary 0) ∷ [];
}

-- the card's rows with the method among them, and what the check and filling then answer
abbrev pub rows_with : MethodDef → List EntryDef
rows_with m = trial_rows ++ entry_in m ∷ []

abbrev pub check_trial : MethodDef → Formed
check_trial m = check_of trial_classes (rows_with m) m

abbrev pub fill_trial : MethodDef → Result Filled Refusal
fill_trial m = fill_of trial_classes (rows_with m) m

abbrev pub passing : MethodDef
passing = countdown (2 ∷ 0 ∷ []) (2 ∷ 1 ∷ [])

-- its own rows pass; a row that asks more at the loop's start is refused there, and one that tells less at the end where the result is returned; filling gives the rows that pass, in two sweeps
abbrev pub WorkedCheck : Type 0
WorkedCheck =
    (check_trial passing ≡ Ok tt)
    × (check_trial (countdown (2 ∷ 1 ∷ []) (2 ∷ 1 ∷ [])) ≡ Err (RowMisfit 1 15))
    × (check_trial (countdown (2 ∷ 0 ∷ []) (0 ∷ 1 ∷ [])) ≡ Err (ResultClass 5))
    × (fill_trial (countdown [] []) ≡ Ok (record { table = Some (2 ∷ 0 ∷ []) ∷ Some (2 ∷ 1 ∷ []) ∷ []; sweeps = 2 }))

-- the card and the method keep every premise of the laws, and the label table passes
pub record WorkedPremises : Type 0 where
  pub tree : Tree trial_classes
  pub known : Each (EntryKnown trial_classes) (rows_with passing)
  pub agree : Agree trial_classes (rows_with passing)
  pub method_known : MethodKnown trial_classes passing
  pub well_formed : WellFormed passing
  pub passes : Passes trial_classes (rows_with passing) passing
