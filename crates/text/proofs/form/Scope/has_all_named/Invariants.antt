use Rattle.std.proofs.Common.{◌≡◌, map, drop}
use Rattle.semantics.specs.Form.{code_names}
use Rattle.semantics.specs.Methods.{op_of}
use Rattle.text.specs.Scopes.{scope_from}
use Rattle.text.proofs.form.Scope.has_all_named.Given as goal

abbrev pub invariant-loop-point : goal.invariant-loop-point
invariant-loop-point l = code_names (scope_from l.self) l.point (map op_of (drop l.point l.code)) ≡ code_names (scope_from l.self) 0 (map op_of l.code)
