use Rattle.std.proofs.Common.{◌≡◌, [], ◌∷◌, ◌++◌, map, drop}
use Rattle.semantics.specs.Form.{code_ends}
use Rattle.semantics.specs.Methods.{label_of, op_of}
use Rattle.text.proofs.form.code_ends.Given as goal

abbrev pub invariant-loop-point : goal.invariant-loop-point
invariant-loop-point l = code_ends (map label_of l.labels) l.point (map op_of (drop l.point l.others ++ l.last ∷ [])) ≡ code_ends (map label_of l.labels) 0 (map op_of l.code)
