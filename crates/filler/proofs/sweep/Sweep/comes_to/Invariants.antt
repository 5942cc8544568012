use Rattle.std.proofs.Common.{◌≡◌, drop}
use Rattle.semantics.specs.Fill.{comes_to}
use Rattle.semantics.specs.Items.{items_of}
use Rattle.filler.specs.Sweeps.{sweep_meaning}
use Rattle.filler.proofs.sweep.Sweep.comes_to.Given as goal

abbrev pub invariant-loop-label : goal.invariant-loop-label
invariant-loop-label g l =
    comes_to (g.T.ClassTable.listed l.table) (items_of l.row) (drop l.label-index l.labels) (sweep_meaning l.self)
    ≡ comes_to (g.T.ClassTable.listed l.table) (items_of l.row) l.labels (sweep_meaning l.initial.self)
