use Rattle.std.proofs.Common.{◌≡◌, ℕ, ◌<◌, map, length, get_or, drop, None}
use Rattle.std.specs.Option.{option_or}
use Rattle.semantics.specs.Fill.{label_number}
use Rattle.semantics.specs.Items.{items_of}
use Rattle.semantics.specs.Methods.{label_of}
use Rattle.filler.proofs.labels.label_numbers.Given as goal

abbrev pub invariant-loop-i : goal.invariant-loop-i
invariant-loop-i l =
    ((p : ℕ) → p < 64 → option_or (get_or (items_of l.numbers) p None) (label_number (map label_of (drop l.i l.labels)) l.i p) ≡ label_number (map label_of l.labels) 0 p)
    × (length (items_of l.numbers) ≡ 64)
