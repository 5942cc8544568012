use Rattle.std.proofs.Common.{◌≡◌, ◌+◌, map, drop}
use Rattle.semantics.specs.Form.{all_present}
use Rattle.text.specs.Scopes.{scope_from}
use Rattle.text.proofs.form.Scope.has_all.Given as goal

abbrev pub invariant-loop-i : goal.invariant-loop-i
invariant-loop-i g l = all_present (scope_from l.self) l.point (l.first + l.i) (map g.T.Name.named (drop l.i l.names)) ≡ all_present (scope_from l.self) l.point l.first (map g.T.Name.named l.names)
