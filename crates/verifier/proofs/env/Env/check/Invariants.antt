use Rattle.std.proofs.Common.{◌≡◌, map, drop}
use Rattle.semantics.specs.Check.{check_from, check_of}
use Rattle.semantics.specs.Entries.{entry_of}
use Rattle.semantics.specs.Methods.{method_of, op_of}
use Rattle.verifier.specs.Answers.{row_of}
use Rattle.verifier.proofs.env.Env.check.Given as goal

abbrev pub invariant-loop-point : goal.invariant-loop-point
invariant-loop-point g l =
    check_from (g.T.ClassTable.listed l.self.table.now) (map entry_of l.self.entries.now) (method_of l.method) l.point (row_of l.current) (map op_of (drop l.point l.code))
    ≡ check_of (g.T.ClassTable.listed l.self.table.now) (map entry_of l.self.entries.now) (method_of l.method)
