use Rattle.semantics.proofs.Growing.{growth_keeps_passing}
use Rattle.semantics.proofs.check_laws.growth_keeps_passing.Goals as goal

pub returns : goal.returns
returns c = growth_keeps_passing
