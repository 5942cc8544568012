use Rattle.std.proofs.Common.{◌≡◌, take}
use Rattle.semantics.specs.Items.{items_of}
use Rattle.machine.proofs.frame.gathered.Given as goal

abbrev pub invariant-loop-item : goal.invariant-loop-item
invariant-loop-item g l = items_of l.list ≡ take g.row.N l.yielded
