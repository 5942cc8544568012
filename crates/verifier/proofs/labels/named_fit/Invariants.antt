use Rattle.std.proofs.Common.{◌≡◌, ◌+◌, map, drop}
use Rattle.semantics.specs.Methods.{label_of}
use Rattle.semantics.specs.Tests.{cells_fit}
use Rattle.verifier.proofs.labels.named_fit.Given as goal

abbrev pub invariant-loop-i : goal.invariant-loop-i
invariant-loop-i g l =
    cells_fit (g.T.ClassTable.listed l.table) g.C.Cell.kind (map label_of l.labels) l.row (l.first + l.i) (drop l.i l.label-items)
    ≡ cells_fit (g.T.ClassTable.listed l.table) g.C.Cell.kind (map label_of l.labels) l.row l.first l.label-items
