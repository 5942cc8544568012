use Rattle.std.proofs.Common.{Ok, Err, refl, ap, ◌∙◌, arith}
use Rattle.std.proofs.lemmas.List.{map-id}
use Rattle.semantics.specs.NewRows.{classes_present}
use Rattle.verifier.proofs.NewEntries.{row_step}
use Rattle.verifier.proofs.Rows.{few_items}
use Rattle.semantics.proofs.Walks.{exits, item_at}
use Rattle.verifier.proofs.rules.rows_present.Goals as goal

pub returns-in_err-all_present : goal.returns-in_err-all_present
returns-in_err-all_present g c =
    let ps = g.T.ClassTable.listed c.args.table.now in
    exits c.from_residual.result _ c.from_residual.ensures.1
    ∙ row_step ps c.loop-label.place _ c.loop-label.label-index c.as_slice-label-items.result.now c.label-item.result (Err c.in_err-all_present.field-0.0) _
    (item_at c.as_slice-label-items.result.now c.loop-label.label-index c.label-item.result c.loop-label-test.true c.label-item.is)
    (c.in_err-all_present.ensures ∙ ap (classes_present ps c.loop-label.place) (map-id _ ∙ c.as_slice.ensures)) refl c.loop-label.invariant.0

pub loop-label-preserved : goal.loop-label-preserved
loop-label-preserved g c =
    let ps = g.T.ClassTable.listed c.args.table.now in (
      row_step ps c.loop-label.place c.len-place-in-loop-label.result c.loop-label.label-index c.as_slice-label-items.result.now c.label-item.result (Ok tt) _
          (item_at c.as_slice-label-items.result.now c.loop-label.label-index c.label-item.result c.loop-label-test.true c.label-item.is)
          (c.in_ok-all_present.ensures ∙ ap (classes_present ps c.loop-label.place) (map-id _ ∙ c.as_slice.ensures)) c.len-place-in-loop-label.ensures c.loop-label.invariant.0,
      omega (arith, c.loop-label.invariant.1, c.len-place-in-loop-label.ensures, few_items c.label-item.result.row),
    )
