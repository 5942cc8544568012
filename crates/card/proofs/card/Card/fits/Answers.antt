use Rattle.std.proofs.Common.{◌≤◌, length, sym, rules, tests, arith}
use Rattle.semantics.proofs.TreeOrder.{absent_fits, fits_absent}
use Rattle.card.proofs.card.Card.fits.Goals as goal

pub returns-in_default : goal.returns-in_default
returns-in_default g c =
    let t = g.met.T.ClassTable.tree c.args.self.now.table in
    let h : length (g.T.ClassTable.listed c.args.self.now.table) ≤ c.args.b = omega (arith, t.few, c.in_default.ensures') in
    sym (fits_absent _ _ _ h)

pub returns-in_default-2 : goal.returns-in_default-2
returns-in_default-2 g c =
    let t = g.met.T.ClassTable.tree c.args.self.now.table in
    let e : 256 ≤ c.args.a = search (rules, tests) in
    let h : length (g.T.ClassTable.listed c.args.self.now.table) ≤ c.args.a = omega (arith, t.few, e) in
    sym (absent_fits _ _ _ h)
