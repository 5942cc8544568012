use Rattle.std.proofs.Common.{◌≡◌, ◌-◌, map}
use Rattle.semantics.specs.Entries.{entry_of}
use Rattle.semantics.specs.Fill.{fill_on, fill_of}
use Rattle.semantics.specs.Methods.{method_of}
use Rattle.filler.specs.Sweeps.{table_of}
use Rattle.filler.proofs.fill.fill_rows.Given as goal

abbrev pub invariant-loop-sweeps : goal.invariant-loop-sweeps
invariant-loop-sweeps g l =
    fill_on (g.T.ClassTable.listed l.env.table.now) (map entry_of l.env.entries.now) (method_of l.method) (913 - l.sweeps) l.sweeps (table_of l.rows)
    ≡ fill_of (g.T.ClassTable.listed l.env.table.now) (map entry_of l.env.entries.now) (method_of l.method)
