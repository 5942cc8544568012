use Rattle.std.proofs.Common.{ap}
use Rattle.text.specs.Parts.{parts_in}
use Rattle.text.proofs.Cuts.{ended_more}
use Rattle.text.proofs.part.Parts.end.Goals as goal

pub returns-in-Some : goal.returns-in-Some
returns-in-Some c = ended_more c.args.self.now.separator c.in-Some.field-0.at c.in-Some.field-0.bytes.now _ (ap (parts_in c.args.self.now.separator) c.in-Some.is)
