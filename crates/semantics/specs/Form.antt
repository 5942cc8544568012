-- The form of a method: its labels, what its operations name, and how its code ends.
use Rattle.std.specs.Prelude.{ℕ, ◌+◌, Bool, true, false, cond, not, ◌&&◌, ◌||◌, List, [], ◌∷◌, map, length, Ok, Err, Result, ◌==◌, nat_le, nat_lt}
use Rattle.semantics.specs.declared.refusal.Refusal.{Refusal}
use Rattle.semantics.specs.declared.refusal.Refusal.TheVariants.{LabelPoint, Absent, OpenEnd}
use Rattle.semantics.specs.declared.operation.Operand.{Operand}
use Rattle.semantics.specs.declared.operation.Operand.TheVariants as operand
use Rattle.semantics.specs.declared.operation.Destination.{Destination}
use Rattle.semantics.specs.declared.operation.Destination.TheVariants as destination
use Rattle.semantics.specs.Methods.{Op, return, jump, jump_if, jump_list, invoke, LabelDef, MethodDef}
use Rattle.semantics.specs.Reading.{so}

abbrev pub Formed : Type 0
Formed = Result (Unit {0}) Refusal

abbrev pub must : Bool → Refusal → Formed
must b e = cond b (Ok tt) (Err e)

-- label points rise strictly and lie in the method; label i is the first of ls, and its point is at least low
abbrev pub labels_rise : ℕ → ℕ → ℕ → List LabelDef → Formed
labels_rise points i low [] = Ok tt
labels_rise points i low (l ∷ ls) =
    so (must (nat_le low l.point && nat_lt l.point points) (LabelPoint i)) (λ _. labels_rise points (i + 1) (l.point + 1) ls)

-- what an operand names
pub data Named : Type 0 where
  local : ℕ → Named
  temporary : ℕ → Named
  target : ℕ → Named
  nothing : Named

abbrev pub named_by : Operand → Named
named_by (operand.Local n) = local n
named_by (operand.Temporary n) = temporary n
named_by (operand.Constant z) = nothing

abbrev pub named_as : Destination → Named
named_as (destination.Local n) = local n
named_as (destination.Temporary n) = temporary n

-- what the operands of an operation name, in their order as written
abbrev pub operands : Op → List Named
operands (return a) = named_by a ∷ []
operands (jump n) = target n ∷ []
operands (jump_if a n) = named_by a ∷ target n ∷ []
operands (jump_list a ns) = named_by a ∷ map target ns
operands (invoke d a m bs) = named_as d ∷ named_by a ∷ nothing ∷ map named_by bs

-- how many locals, temporaries and labels a method has
pub record Scope : Type 0 where
  pub locals : ℕ
  pub temporaries : ℕ
  pub labels : ℕ

abbrev pub scope_of : MethodDef → Scope
scope_of m = record { locals = length m.arguments + 1; temporaries = m.temporaries; labels = length m.labels }

abbrev pub present : Scope → Named → Bool
present s (local n) = nat_lt n s.locals
present s (temporary n) = nat_lt n s.temporaries
present s (target n) = nat_lt n s.labels
present s nothing = true

-- the operands from the k-th on
abbrev pub all_present : Scope → ℕ → ℕ → List Named → Formed
all_present s point k [] = Ok tt
all_present s point k (x ∷ xs) = so (must (present s x) (Absent point k)) (λ _. all_present s point (k + 1) xs)

-- the operations from the point p on
abbrev pub code_names : Scope → ℕ → List Op → Formed
code_names s p [] = Ok tt
code_names s p (o ∷ os) = so (all_present s p 0 (operands o)) (λ _. code_names s (p + 1) os)

-- an operation that nothing runs past
abbrev pub leaves : Op → Bool
leaves (return a) = true
leaves (jump n) = true
leaves (jump_if a n) = false
leaves (jump_list a ns) = false
leaves (invoke d a m bs) = false

abbrev pub labelled : List LabelDef → ℕ → Bool
labelled [] p = false
labelled (l ∷ ls) p = l.point == p || labelled ls p

-- the last operation leaves, and behind any other that leaves stands a label
abbrev pub code_ends : List LabelDef → ℕ → List Op → Formed
code_ends ls p [] = Ok tt
code_ends ls p (o ∷ []) = must (leaves o) (OpenEnd p)
code_ends ls p (o ∷ q ∷ os) = so (must (not (leaves o) || labelled ls (p + 1)) (OpenEnd p)) (λ _. code_ends ls (p + 1) (q ∷ os))

-- the first fault: 4 before 5 before 6, each over the whole method
abbrev pub form_of : MethodDef → Formed
form_of m =
    so (labels_rise (length m.code) 0 0 m.labels) (λ _.
    so (code_names (scope_of m) 0 m.code) (λ _.
    code_ends m.labels 0 m.code))
