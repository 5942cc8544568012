use Rattle.std.proofs.Common.{◌≡◌, map, drop}
use Rattle.semantics.specs.Entries.{entry_of}
use Rattle.semantics.specs.Fill.{sweep_from, sweep_of}
use Rattle.semantics.specs.Methods.{op_of, method_of}
use Rattle.verifier.specs.Answers.{row_of}
use Rattle.filler.specs.Sweeps.{table_of, sweep_meaning}
use Rattle.filler.proofs.sweep.sweep_points.Given as goal

abbrev pub invariant-loop-point : goal.invariant-loop-point
invariant-loop-point g l =
    sweep_from (g.T.ClassTable.listed l.env.table.now) (map entry_of l.env.entries.now) (method_of l.method) l.point (row_of l.current) (sweep_meaning l.sweep) (map op_of (drop l.point l.code))
    ≡ sweep_of (g.T.ClassTable.listed l.env.table.now) (map entry_of l.env.entries.now) (method_of l.method) (table_of l.initial.sweep.table)
