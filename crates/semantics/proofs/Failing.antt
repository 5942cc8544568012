-- A sweep fails by one of the tests 12 to 15.
use Rattle.std.proofs.Common.{◌≡◌, ℕ, ◌+◌, Bool, true, false, eqb, List, [], ◌∷◌, map, length, get_or, IfErr, Some, None, Ok, Err, Option, Result, arith}
use Rattle.std.proofs.lemmas.Result.{MatchResult-at_err}
use Rattle.semantics.specs.declared.misfit.Misfit.{Misfit}
use Rattle.semantics.specs.declared.misfit.Misfit.TheVariants as misfit
use Rattle.semantics.specs.declared.operation.Operand.{Operand}
use Rattle.semantics.specs.declared.operation.Destination.{Destination}
use Rattle.semantics.specs.declared.operation.Destination.TheVariants as destination
use Rattle.semantics.specs.declared.refusal.Refusal.{Refusal}
use Rattle.semantics.specs.Check.{at_row, carried, misfit_at, tested_at}
use Rattle.semantics.specs.Entries.{EntryDef, Found, lookup}
use Rattle.semantics.specs.Fill.{Sweep, falls_into, row_there, sweep_from, Table, sweep_of}
use Rattle.semantics.specs.FillLaws.{IsTest}
use Rattle.semantics.specs.Methods.{Op, return, jump, jump_if, jump_list, invoke, MethodDef}
use Rattle.semantics.specs.Tests.{Tested, arguments_fit, bool_class, callee, demand, int_class, locals_of, needed, operand_class, own_tests, put_into, then}
use Rattle.semantics.specs.Tree.{fits}
use Rattle.semantics.proofs.Sweeping.{label_here}
use Rattle.semantics.proofs.Testing.{then_cases, so_tells}

-- a misfit of an operation's own tests, which a row at a label is not
abbrev Own : Misfit → Type 0
Own misfit.NoRow = Unit {0}
Own (misfit.Argument k) = Unit {0}
Own misfit.ResultClass = Unit {0}
Own misfit.Condition = Unit {0}
Own (misfit.Row k) = ⊥

abbrev Fails : {X : Type 0} → Tested X → Type 0
Fails t = IfErr t Own

then_fails : {X Y : Type 0} (t : Tested X) (f : X → Tested Y) → Fails t → ((x : X) → Fails (f x)) → Fails (then t f)
then_fails t f own more = then_cases (λ _. Unit {0}) Own t f own (λ x _. more x)

demand_fails : {Y : Type 0} (b : Bool) (d : Misfit) (r : Tested Y) → Own d → Fails r → Fails (then (demand b d) (λ _. r))
demand_fails true d r own more = more
demand_fails false d r own more = own

needed_fails : {X Y : Type 0} (o : Option X) (d : Misfit) (f : X → Tested Y) → Own d → ((x : X) → Fails (f x)) → Fails (then (needed o d) f)
needed_fails (Some x) d f own more = more x
needed_fails None d f own more = own

arguments_fail : (ps : List ℕ) (k : ℕ) (cs as' : List ℕ) → Fails (arguments_fit ps k cs as')
arguments_fail ps k [] as' = tt
arguments_fail ps k (c ∷ cs) [] = tt
arguments_fail ps k (c ∷ cs) (a ∷ as') = demand_fails (fits ps c a) (misfit.Argument k) (arguments_fit ps (k + 1) cs as') tt (arguments_fail ps (k + 1) cs as')

module _ (ps : List ℕ) (es : List EntryDef) where
  given_fails : (cs : List ℕ) (f : Found) → Fails (then (arguments_fit ps 3 cs f.entry.arguments) (λ _. Ok f))
  given_fails cs f = then_fails (arguments_fit ps 3 cs f.entry.arguments) (λ _. Ok f) (arguments_fail ps 3 cs f.entry.arguments) (λ _. tt)

  callee_fails : (c m : ℕ) (cs : List ℕ) → Fails (callee ps es c m cs)
  callee_fails c m cs = needed_fails (lookup ps es c m) misfit.NoRow
      (λ (f : Found). then (demand (eqb (length cs) (length f.entry.arguments)) (misfit.Argument 2)) (λ _. then (arguments_fit ps 3 cs f.entry.arguments) (λ _. Ok f))) tt
      (λ f. demand_fails (eqb (length cs) (length f.entry.arguments)) (misfit.Argument 2) (then (arguments_fit ps 3 cs f.entry.arguments) (λ _. Ok f)) tt (given_fails cs f))

  put_fails : (ls ts : List ℕ) (d : Destination) (c : ℕ) → Fails (put_into ps ls ts d c)
  put_fails ls ts (destination.Local n) c = demand_fails (fits ps c (get_or ls n 0)) misfit.ResultClass (Ok ts) tt tt
  put_fails ls ts (destination.Temporary n) c = tt

  module _ (m : MethodDef) (ts : List ℕ) where
    abbrev class_of : Operand → ℕ
    class_of = operand_class (locals_of m) ts

    own_fails : (o : Op) → Fails (own_tests ps es m ts o)
    own_fails (return a) = demand_fails (fits ps (class_of a) m.result) misfit.ResultClass (Ok ts) tt tt
    own_fails (jump n) = tt
    own_fails (jump_if a n) = demand_fails (fits ps (class_of a) bool_class) misfit.Condition (Ok ts) tt tt
    own_fails (jump_list a ns) = demand_fails (fits ps (class_of a) int_class) misfit.Condition (Ok ts) tt tt
    own_fails (invoke d a n bs) = then_fails (callee ps es (class_of a) n (map class_of bs)) (λ f. put_into ps (locals_of m) ts d f.entry.result) (callee_fails (class_of a) n (map class_of bs)) (λ f. put_fails (locals_of m) ts d f.entry.result)

test_told : (p : ℕ) (d : Misfit) → Own d → IsTest (misfit_at p d)
test_told p misfit.NoRow own = (omega arith, omega arith)
test_told p (misfit.Argument k) own = (omega arith, omega arith)
test_told p misfit.ResultClass own = (omega arith, omega arith)
test_told p misfit.Condition own = (omega arith, omega arith)
test_told p (misfit.Row k) own = absurd own

abbrev FailsByTest : {X : Type 0} → Result X Refusal → Type 0
FailsByTest r = IfErr r IsTest

tested_fails : {X : Type 0} (p : ℕ) (t : Tested X) → Fails t → FailsByTest (tested_at p t)
tested_fails p (Ok x) own = tt
tested_fails p (Err d) own = test_told p d own

row_fails : {X Y : Type 0} (o : Option X) (r : Result Y Refusal) (f : X → Result Y Refusal) → FailsByTest r → ((x : X) → FailsByTest (f x)) → FailsByTest (at_row o r f)
row_fails (Some x) r f past in' = in' x
row_fails None r f past in' = past

module _ (ps : List ℕ) (es : List EntryDef) (m : MethodDef) where
  points_fail : (p : ℕ) (current : Option (List ℕ)) (s : Sweep) (os : List Op) → FailsByTest (sweep_from ps es m p current s os)
  points_fail p current s [] = tt
  points_fail p current s (o ∷ os) = row_fails (row_there (label_here m p) current (falls_into ps (label_here m p) current s)) _ _
      (points_fail (p + 1) None _ os)
      (λ ts. so_tells (λ _. Unit {0}) IsTest (tested_at p (own_tests ps es m ts o)) _ (tested_fails p (own_tests ps es m ts o) (own_fails ps es m ts o)) (λ us _. points_fail (p + 1) (carried o us) _ os))

  pub sweep_fails : (t : Table) (e : Refusal) → sweep_of ps es m t ≡ Err e → IsTest e
  unfolding sweep_of
  sweep_fails t e is = MatchResult-at_err (λ _. Unit {0}) IsTest e is (points_fail 0 _ _ m.code)
