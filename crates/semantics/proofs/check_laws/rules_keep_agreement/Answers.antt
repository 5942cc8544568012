use Rattle.semantics.proofs.Growing.{rules_keep_agreement}
use Rattle.semantics.proofs.check_laws.rules_keep_agreement.Goals as goal

pub returns : goal.returns
returns c = rules_keep_agreement
