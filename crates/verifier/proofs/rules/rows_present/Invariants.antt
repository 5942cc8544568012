use Rattle.std.proofs.Common.{◌≡◌, ◌+◌, ◌*◌, ◌≤◌, map, length, drop}
use Rattle.semantics.specs.Items.{items_of}
use Rattle.semantics.specs.Methods.{label_of, method_of}
use Rattle.semantics.specs.NewRows.{classes_present, row_classes}
use Rattle.verifier.proofs.rules.rows_present.Given as goal

abbrev pub invariant-loop-label : goal.invariant-loop-label
invariant-loop-label g l =
    (classes_present (g.T.ClassTable.listed l.table) l.place (row_classes (map label_of (drop l.label-index l.label-items)))
    ≡ classes_present (g.T.ClassTable.listed l.table) (2 + length (items_of l.method.arguments)) (row_classes (method_of l.method).labels))
    × (l.place ≤ 9 + 8 * l.label-index)
