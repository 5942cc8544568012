use Rattle.std.proofs.Common.{length, arith}
use Rattle.std.proofs.lemmas.Slice.Zip.{zip_end}
use Rattle.semantics.specs.Items.{items_of}
use Rattle.filler.proofs.Joining.{join_end}
use Rattle.filler.proofs.rows.join_rows.Goals as goal

pub returns : goal.returns
returns g c =
    let n = zip_end (items_of c.args.row.now) (items_of c.args.other.now) c.loop-class.yielded c.into_iter-class-iterator.result c.loop-class.class-iterator c.next.new.self c.next.result (cc) (cc) c.loop-class.yielded_by c.in-None.is c.next.ensures.steps in
    join_end (g.T.ClassTable.listed c.args.table.now) (items_of c.args.row.now) (items_of c.args.other.now) _ _ (length c.loop-class.yielded) (omega (arith, n)) c.loop-class.invariant.0
