use Rattle.std.proofs.Common.{rules, tests}
use Rattle.semantics.specs.Items.{items_of}
use Rattle.filler.proofs.Joining.{differ_by}
use Rattle.filler.proofs.rows.differs.Goals as goal

pub returns : goal.returns
returns c = differ_by c.args.old (items_of c.args.new.now) c.map_or.result _ (λ v p. search (rules, tests)) c.map_or.ensures
