use Rattle.std.proofs.Common.{arith}
use Rattle.text.proofs.Digits.{value_over}
use Rattle.text.proofs.number.up_to_max.Goals as goal

pub returns-then-n-from : goal.returns-then-n-from
returns-then-n-from c = value_over c.args.max c.loop-digit.n _ c.args.digits.now c.loop-digit.digit-index c.loop-digit-test.true (omega arith) c.loop-digit.invariant.1
