use Rattle.semantics.proofs.CheckFirst.{check_tells_the_first}
use Rattle.semantics.proofs.check_laws.check_tells_the_first.Goals as goal

pub returns : goal.returns
returns c = check_tells_the_first
