use Rattle.std.proofs.Common.{refl}
use Rattle.semantics.specs.Items.{items_of}
use Rattle.filler.proofs.Joining.{comes_by}
use Rattle.filler.proofs.sweep.Sweep.comes.Goals as goal

pub returns : goal.returns
returns g c =
    comes_by (g.T.ClassTable.listed c.args.table.now) (items_of c.args.row.now) c.args.label (items_of c.args.self.now.table) (items_of c.set.new.self) c.args.self.now.altered c.differs.result _ c.args.self.now.missed
    c.get_or-old.result c.joined_into-new.result c.get_or-old.ensures c.joined_into-new.ensures c.differs.ensures c.set.ensures refl
