use Rattle.std.proofs.Common.{◌≡◌, ◌++◌, length, drop}
use Rattle.semantics.specs.Fill.{join_rows}
use Rattle.semantics.specs.Items.{items_of}
use Rattle.filler.proofs.rows.join_rows.Given as goal

abbrev pub invariant-loop-class : goal.invariant-loop-class
invariant-loop-class g l =
    (items_of l.joined ++ join_rows (g.T.ClassTable.listed l.table) (drop (length l.yielded) (items_of l.row)) (drop (length l.yielded) (items_of l.other))
    ≡ join_rows (g.T.ClassTable.listed l.table) (items_of l.row) (items_of l.other))
    × (length (items_of l.joined) ≡ length l.yielded)
