use Rattle.std.proofs.Common.{◌≡◌, ◌++◌, map, length, take, drop}
use Rattle.semantics.specs.Fill.{with_rows}
use Rattle.semantics.specs.Items.{items_of}
use Rattle.semantics.specs.Methods.{label_of}
use Rattle.filler.specs.Sweeps.{table_of}
use Rattle.filler.proofs.labels.labels_with.Given as goal

abbrev pub invariant-loop-i : goal.invariant-loop-i
invariant-loop-i l =
    (map label_of (take l.i (items_of l.filled)) ++ with_rows (map label_of (drop l.i l.label-items)) (drop l.i (table_of l.rows))
    ≡ with_rows (map label_of l.label-items) (table_of l.rows))
    × (length (items_of l.filled) ≡ length l.label-items)
