use Rattle.std.proofs.Common.{◌≡◌, false, sym, ◌∙◌, nat_eq, length, rules, tests, arith}
use Rattle.std.proofs.lemmas.Iterator.{YieldsList-from_slice, YieldsList-from_zip}
use Rattle.std.proofs.lemmas.Iterator.Search.{all_from_yields_List}
use Rattle.semantics.specs.Rows.{cell_fits}
use Rattle.semantics.proofs.RowLaws.{row_differs, row_told}
use Rattle.classes.proofs.Pairs.{all_fit}
use Rattle.classes.proofs.rows.row_fits.Goals as goal

pub returns-then-row-other : goal.returns-then-row-other
returns-then-row-other g c =
    let ps = g.T.ClassTable.listed c.args.table.now in
    let t = g.met.T.ClassTable.tree c.args.table.now in
    let e = all_from_yields_List (λ z. cell_fits ps g.C.Cell.kind g.D.Cell.kind z.0 z.1) c.all.new.self _ c.all.result c.all.ensures.ran (YieldsList-from_zip (YieldsList-from_slice c.args.row.now cc) (YieldsList-from_slice c.args.other.now cc)) (λ x b q k. search (rules, tests))
    ∙ all_fit ps g.C.Cell.kind g.D.Cell.kind c.args.row.now c.args.other.now (omega arith) in
    record { value = e; cells = row_told ps g.C.Cell.kind g.D.Cell.kind t c.args.row.now c.args.other.now c.all.result e }

pub returns-else-row-other : goal.returns-else-row-other
returns-else-row-other g c =
    let ps = g.T.ClassTable.listed c.args.table.now in
    let t = g.met.T.ClassTable.tree c.args.table.now in
    let d : nat_eq (length c.args.row.now) (length c.args.other.now) ≡ false = search (rules, tests) in
    let e = d ∙ sym (row_differs ps g.C.Cell.kind g.D.Cell.kind c.args.row.now c.args.other.now (λ e. omega arith)) in
    record { value = e; cells = row_told ps g.C.Cell.kind g.D.Cell.kind t c.args.row.now c.args.other.now (nat_eq (length c.args.row.now) (length c.args.other.now)) e }
