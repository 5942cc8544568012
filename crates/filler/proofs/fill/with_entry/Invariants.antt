use Rattle.std.proofs.Common.{◌≡◌, take}
use Rattle.semantics.specs.Items.{items_of}
use Rattle.filler.proofs.fill.with_entry.Given as goal

abbrev pub invariant-loop-old : goal.invariant-loop-old
invariant-loop-old l = items_of l.known ≡ take l.old-index l.entries
