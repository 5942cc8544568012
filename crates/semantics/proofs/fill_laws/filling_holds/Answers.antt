-- The law of filling.
use Rattle.semantics.proofs.Filled.{filling_holds}
use Rattle.semantics.proofs.fill_laws.filling_holds.Goals as goal

pub returns : goal.returns
returns c = filling_holds
