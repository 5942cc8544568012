-- Worked cases: fitting and joining, the check and filling of Countdown, its runs on the trial card over the number host, and a whole list of calls.
use Rattle.std.specs.Prelude.{◌≡◌, ℕ, List, [], ◌∷◌, ◌++◌, map, ℤ, pos, negsuc, Some, Ok, Err}
use Rattle.semantics.specs.declared.call.Kind.TheVariants.{Issue}
use Rattle.semantics.specs.declared.call.Offered.{Offered}
use Rattle.semantics.specs.declared.call.Response.{Response}
use Rattle.semantics.specs.declared.call.Response.TheVariants.{Class, Row, Started, Ended}
use Rattle.semantics.specs.declared.ending.End.{End}
use Rattle.semantics.specs.declared.ending.Ending.TheVariants.{Returned}
use Rattle.semantics.specs.declared.operation.Operand.TheVariants as operand
use Rattle.semantics.specs.declared.refusal.Refusal.TheVariants.{ResultClass, RowMisfit}
use Rattle.semantics.specs.declared.value.Cause.TheVariants.{Range}
use Rattle.semantics.specs.Calls.{CallDef, class, native, load, start, go, Moment, moments}
use Rattle.semantics.specs.Cards.{blank_card}
use Rattle.semantics.specs.Endings.{end}
use Rattle.semantics.specs.Hosts.{number_reply, value, cause_number, Answer}
use Rattle.semantics.specs.Methods.{return, jump_list, MethodDef}
use Rattle.semantics.specs.Printing.{method_text}
use Rattle.semantics.specs.Runs.{FrameDef, Turn, onward, opened, moved_to, step_of, go_from}
use Rattle.semantics.specs.Stores.{Store, code_in}
use Rattle.semantics.specs.Stores as store
use Rattle.semantics.specs.TreeLaws.{WorkedClasses, WorkedTree}
use Rattle.semantics.specs.Worked.{trial_classes, trial_rows, countdown, passing, rows_with, check_trial, fill_trial}

-- the trial card's classes and rows with a method behind its three native rows, under number 3
abbrev pub trial_store : MethodDef → Store
trial_store m = record {
  classes = trial_classes;
  entries = rows_with m;
  bodies = store.native ∷ store.native ∷ store.native ∷ store.coded (code_in m) ∷ [];
}

-- the first frame of the method, on a receiver of class 3
abbrev pub trial_frame : MethodDef → List ℤ → FrameDef
trial_frame m zs = opened 3 (code_in m) (value 3 (pos 0)) (map (value 2) zs)

-- the end of a go of at most 100 steps of Countdown on a number
abbrev pub countdown_from : ℤ → End
countdown_from z = (go_from (trial_store passing) number_reply 100 0 (onward (trial_frame passing (z ∷ [])) [] tt)).end

-- an L on a constant, with one label two points further on, and its step
abbrev pub choosing : ℤ → MethodDef
choosing z = record {
  class = 3;
  name = 201;
  arguments = [];
  result = 2;
  temporaries = 0;
  labels = record { point = 2; row = [] } ∷ [];
  code = jump_list (operand.Constant z) (0 ∷ []) ∷ return (operand.Constant (pos 1)) ∷ return (operand.Constant (pos 2)) ∷ [];
}

abbrev pub choosing_step : ℤ → Turn (Unit {0})
choosing_step z = step_of (trial_store (choosing z)) number_reply (trial_frame (choosing z) []) [] tt

abbrev pub GoesTo : ℤ → ℕ → Type 0
GoesTo z p = choosing_step z ≡ onward (moved_to (trial_frame (choosing z) []) p) [] tt

-- what the number host answers where x is to be divided by y
abbrev pub quotient : ℤ → ℤ → Answer
quotient x y = (number_reply tt (record { name = 4; class = 2; wanted = 2; receiver = value 2 x; arguments = value 2 y ∷ [] })).0

-- the calls that make the trial card from a blank one
abbrev pub trial_calls : List CallDef
trial_calls = class 0 ∷ map native trial_rows

-- then Countdown is loaded and run on 10
abbrev pub offered : ℕ → ℤ → Offered
offered c z = record { class = c; number = z }

abbrev pub countdown_calls : List CallDef
countdown_calls = load (method_text passing) ∷ start (offered 3 (pos 0)) 200 (offered 2 (pos 10) ∷ []) ∷ go 100 ∷ []

-- what a list of calls was answered
abbrev pub responses : List (Moment (Unit {0})) → List Response
responses ms = map (λ m. m.outcome.response) ms

pub record WorkedCases : Type 0 where
  -- on a blank card Int fits CardObject and not the other way round, and Bool and Int join there; and a tree of more classes
  pub classes : WorkedClasses
  pub more_classes : WorkedTree
  -- Countdown passes with its own rows
  pub passes : check_trial passing ≡ Ok tt
  -- a row that asks more at the loop's start is refused there, and one that tells less at the end where the result is returned
  pub asks_more : check_trial (countdown (2 ∷ 1 ∷ []) (2 ∷ 1 ∷ [])) ≡ Err (RowMisfit 1 15)
  pub tells_less : check_trial (countdown (2 ∷ 0 ∷ []) (0 ∷ 1 ∷ [])) ≡ Err (ResultClass 5)
  -- filling gives the rows that pass, in two sweeps
  pub fills : fill_trial (countdown [] []) ≡ Ok (record { table = Some (2 ∷ 0 ∷ []) ∷ Some (2 ∷ 1 ∷ []) ∷ []; sweeps = 2 })
  -- from 10 the run returns -2 after 16 steps, from 0 it returns 0 after 4
  pub from_ten : countdown_from (pos 10) ≡ end (Returned (value 2 (negsuc 1))) 16 3 5
  pub from_zero : countdown_from (pos 0) ≡ end (Returned (value 2 (pos 0))) 4 3 5
  -- an L goes to the label that its operand numbers; on -1 and past its list it goes on
  pub to_first_label : GoesTo (pos 0) 2
  pub no_label : GoesTo (negsuc 0) 1
  pub past_labels : GoesTo (pos 1) 1
  -- -7 by 2 is -3; -2^31 by -1 is out of range, cause 5
  pub toward_zero : quotient (negsuc 6) (pos 2) ≡ Ok (value 2 (negsuc 2))
  pub out_of_range : quotient (negsuc 2147483647) (negsuc 0) ≡ Err Range
  pub range_number : cause_number Range ≡ 5
  -- a whole list of calls on a blank issue card
  pub whole_list : responses (moments number_reply (blank_card Issue) tt (trial_calls ++ countdown_calls))
      ≡ Class 3 ∷ Row 0 ∷ Row 1 ∷ Row 2 ∷ Row 3 ∷ Started ∷ Ended (end (Returned (value 2 (negsuc 1))) 16 3 5) ∷ []
