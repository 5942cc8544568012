use Rattle.semantics.proofs.Lookups.{lookup_is_nearest}
use Rattle.semantics.proofs.check_laws.lookup_is_nearest.Goals as goal

pub returns : goal.returns
returns c = lookup_is_nearest
