use Rattle.semantics.proofs.CheckExact.{check_is_exact}
use Rattle.semantics.proofs.check_laws.check_is_exact.Goals as goal

pub returns : goal.returns
returns c = check_is_exact
