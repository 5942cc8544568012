use Rattle.std.proofs.Common.{arith}
use Rattle.semantics.proofs.TreeJoin.{join_deepest}
use Rattle.classes.proofs.common.deepest_common.Goals as goal

pub returns : goal.returns
returns g c =
    join_deepest (g.T.ClassTable.listed c.args.table.now) (g.met.T.ClassTable.tree c.args.table.now)
    c.args.a c.args.b c.join.result (omega arith) (omega arith) c.join.ensures
