use Rattle.std.proofs.Common.{◌≡◌, map, drop, None}
use Rattle.semantics.specs.Entries.{entry_of}
use Rattle.verifier.proofs.Lookups.{nearest_on}
use Rattle.verifier.proofs.env.Env.lookup.Given as goal

abbrev pub invariant-loop-number : goal.invariant-loop-number
invariant-loop-number g l =
    nearest_on (g.T.ClassTable.listed l.self.table.now) l.class l.name l.best l.number (map entry_of (drop l.number l.self.entries.now))
    ≡ nearest_on (g.T.ClassTable.listed l.self.table.now) l.class l.name None 0 (map entry_of l.self.entries.now)
