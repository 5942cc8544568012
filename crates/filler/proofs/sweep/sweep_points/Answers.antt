use Rattle.std.proofs.Common.{map, refl, ap}
use Rattle.semantics.specs.Entries.{entry_of}
use Rattle.semantics.specs.Items.{items_of}
use Rattle.semantics.specs.Methods.{op_of, method_of}
use Rattle.filler.specs.Sweeps.{table_of}
use Rattle.filler.proofs.Sweeping.{sweep_start}
use Rattle.filler.proofs.sweep.sweep_points.Goals as goal
use Rattle.filler.proofs.sweep.sweep_points.Goals.{After-visit}

pub loop-point-init : goal.loop-point-init
loop-point-init g c =
    let m = c.args.method.now in
    sweep_start (g.T.ClassTable.listed c.args.env.now.table.now) (map entry_of c.args.env.now.entries.now) (method_of m) (table_of c.args.rows) (items_of c.repeat.result) _ m.temporaries refl m.few c.repeat.ensures (ap (map op_of) c.as_slice-code.ensures)
