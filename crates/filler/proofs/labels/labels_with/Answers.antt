use Rattle.std.proofs.Common.{length, ap, ◌∙◌, arith}
use Rattle.std.proofs.lemmas.List.{length-set}
use Rattle.semantics.specs.Fill.{row_or}
use Rattle.semantics.specs.Items.{items_of}
use Rattle.verifier.specs.Answers.{row_of}
use Rattle.semantics.proofs.Walks.{item_at}
use Rattle.filler.specs.Sweeps.{table_of}
use Rattle.filler.proofs.Joining.{row_in_lem, or_empty}
use Rattle.filler.proofs.Labelling.{rows_turn}
use Rattle.filler.proofs.labels.labels_with.Goals as goal

pub loop-i-preserved : goal.loop-i-preserved
loop-i-preserved c =
    let ls = c.as_slice-label-items.result.now in
    let n = c.loop-i.invariant.1 in (
      rows_turn ls (items_of c.loop-i.filled) (items_of c.set.new.self) c.label-item.result _ (table_of c.args.rows.now) c.loop-i.i _ (omega arith) (item_at ls c.loop-i.i c.label-item.result c.loop-i-test.true c.label-item.is)
          c.set.ensures
          (λ j. record { point = c.label-item.result.point; row = (ap items_of c.unwrap_or-row.ensures ∙ or_empty c.get_or.result c.new.result c.new.ensures ∙ ap (λ r. row_or (row_of r)) c.get_or.ensures ∙ ap row_or (row_in_lem (items_of c.args.rows.now) c.loop-i.i)) j })
          c.loop-i.invariant.0,
      ap length c.set.ensures ∙ length-set (items_of c.loop-i.filled) c.loop-i.i _ ∙ n,
    )
