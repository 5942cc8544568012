use Rattle.semantics.proofs.WorkedCases.{worked_cases, worked_premises}
use Rattle.semantics.proofs.check_laws.worked_check.Goals as goal

pub returns : goal.returns
returns c = record {
  answers = (worked_cases.passes, worked_cases.asks_more, worked_cases.tells_less, worked_cases.fills);
  premises = worked_premises;
}
