use Rattle.std.proofs.Common.{map}
use Rattle.semantics.specs.Entries.{entry_of}
use Rattle.filler.proofs.Lawful.{fills_lawfully}
use Rattle.filler.proofs.fill.fill.Goals as goal

pub returns-in_err-method-clause-laws : goal.returns-in_err-method-clause-laws
returns-in_err-method-clause-laws g c = fills_lawfully (g.T.ClassTable.listed c.args.env.now.table.now) (map entry_of c.args.env.now.entries.now) c.args.text.now (g.met.T.ClassTable.tree c.args.env.now.table.now)

pub returns-in_err-len-clause-laws : goal.returns-in_err-len-clause-laws
returns-in_err-len-clause-laws g c = fills_lawfully (g.T.ClassTable.listed c.args.env.now.table.now) (map entry_of c.args.env.now.entries.now) c.args.text.now (g.met.T.ClassTable.tree c.args.env.now.table.now)

pub returns-clause-laws : goal.returns-clause-laws
returns-clause-laws g c = fills_lawfully (g.T.ClassTable.listed c.args.env.now.table.now) (map entry_of c.args.env.now.entries.now) c.args.text.now (g.met.T.ClassTable.tree c.args.env.now.table.now)
