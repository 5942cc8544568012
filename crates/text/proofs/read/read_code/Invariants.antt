use Rattle.std.proofs.Common.{◌≡◌, ◌-◌, ◌≤◌, [], length}
use Rattle.semantics.specs.Items.{items_of}
use Rattle.semantics.specs.Reading.{code_on}
use Rattle.text.specs.Lines.{left_of}
use Rattle.text.specs.Whole.{code_of}
use Rattle.text.proofs.read.read_code.Given as goal

abbrev pub invariant-loop-code : goal.invariant-loop-code
invariant-loop-code l =
    (code_on (64 - length (items_of l.code)) (code_of l.code) (left_of l.reader) ≡ code_on 64 [] (left_of l.initial.reader))
    × (length (items_of l.code) ≤ 64)

abbrev pub decreases-loop-code : goal.decreases-loop-code
decreases-loop-code l = 64 - length (items_of l.code)
