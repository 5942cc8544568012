use Rattle.std.proofs.Common.{◌≤◌, length, sym, inl, inr, rules, tests, arith}
use Rattle.semantics.proofs.TreeJoin.{join_absent}
use Rattle.card.proofs.card.Card.join.Goals as goal

pub returns-in_default : goal.returns-in_default
returns-in_default g c =
    let t = g.met.T.ClassTable.tree c.args.self.now.table in
    let h : length (g.T.ClassTable.listed c.args.self.now.table) ≤ c.args.b = omega (arith, t.few, c.in_default.ensures') in
    sym (join_absent _ _ _ (inr h))

pub returns-in_default-2 : goal.returns-in_default-2
returns-in_default-2 g c =
    let t = g.met.T.ClassTable.tree c.args.self.now.table in
    let e : 256 ≤ c.args.a = search (rules, tests) in
    let h : length (g.T.ClassTable.listed c.args.self.now.table) ≤ c.args.a = omega (arith, t.few, e) in
    sym (join_absent _ _ _ (inl h))
