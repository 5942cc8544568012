use Rattle.std.proofs.Common.{◌≤◌, length}
use Rattle.console.specs.Coming.{to_come}
use Rattle.console.proofs.lines.Lines.block.Given as goal

abbrev pub invariant-loop-line : goal.invariant-loop-line
invariant-loop-line l = (l.length ≤ length l.text) × (to_come l.self ≤ length l.text)
