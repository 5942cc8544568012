use Rattle.semantics.proofs.WorkedCases.{worked_cases}
use Rattle.semantics.proofs.tree_laws.worked_classes.Goals as goal

pub returns : goal.returns
returns c = record { blank = worked_cases.classes; grown = worked_cases.more_classes }
