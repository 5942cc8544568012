use Rattle.std.proofs.Common.{◌≡◌, map, drop}
use Rattle.semantics.specs.Form.{labels_rise}
use Rattle.semantics.specs.Methods.{label_of}
use Rattle.text.proofs.form.labels_rise.Given as goal

abbrev pub invariant-loop-i : goal.invariant-loop-i
invariant-loop-i l = labels_rise l.points l.i l.low (map label_of (drop l.i l.labels)) ≡ labels_rise l.points 0 0 (map label_of l.labels)
