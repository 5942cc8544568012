use Rattle.std.proofs.Common.{◌≡◌, ◌-◌, ◌≤◌, [], length}
use Rattle.semantics.specs.Items.{items_of}
use Rattle.semantics.specs.Reading.{labels_on}
use Rattle.text.specs.Lines.{left_of}
use Rattle.text.specs.Whole.{labels_of}
use Rattle.text.proofs.read.read_labels.Given as goal

abbrev pub invariant-loop-temporaries : goal.invariant-loop-temporaries
invariant-loop-temporaries l =
    (labels_on (16 - length (items_of l.labels)) l.temporaries.count (labels_of l.labels) (left_of l.reader) ≡ labels_on 16 l.temporaries.count [] (left_of l.initial.reader))
    × (length (items_of l.labels) ≤ 16)

abbrev pub decreases-loop-temporaries : goal.decreases-loop-temporaries
decreases-loop-temporaries l = 16 - length (items_of l.labels)
