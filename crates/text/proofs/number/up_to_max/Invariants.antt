use Rattle.std.proofs.Common.{◌≡◌, ◌≤◌, true, drop}
use Rattle.std.specs.Str.{all_ascii_digits}
use Rattle.semantics.specs.Numbers.{value_on, value_of}
use Rattle.text.proofs.number.up_to_max.Given as goal

abbrev pub invariant-loop-digit : goal.invariant-loop-digit
invariant-loop-digit l = (l.n ≤ l.max) × (value_on l.n (drop l.digit-index l.digits) ≡ value_of l.digits) × (all_ascii_digits (drop l.digit-index l.digits) ≡ true)
