use Rattle.std.proofs.Common.{◌≡◌, ◌+◌, map, drop}
use Rattle.semantics.specs.NewRows.{classes_present}
use Rattle.verifier.proofs.rules.all_present.Given as goal

abbrev pub invariant-loop-i : goal.invariant-loop-i
invariant-loop-i g l =
    classes_present (g.T.ClassTable.listed l.table) (l.first + l.i) (map g.C.Cell.kind (drop l.i l.cells))
    ≡ classes_present (g.T.ClassTable.listed l.table) l.first (map g.C.Cell.kind l.cells)
