use Rattle.semantics.proofs.WorkedCases.{worked_cases, worked_premises}
use Rattle.semantics.proofs.worked.worked_cases.Goals as goal

pub returns : goal.returns
returns c = record { cases = worked_cases; premises = worked_premises }
