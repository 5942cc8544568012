use Rattle.std.proofs.Common.{◌∷◌, Ok, Err, refl, ap, ◌∙◌}
use Rattle.std.proofs.lemmas.List.{map-id}
use Rattle.semantics.specs.Entries.{entry_of}
use Rattle.semantics.specs.NewRows.{classes_present}
use Rattle.verifier.proofs.NewEntries.{signature_by}
use Rattle.semantics.proofs.Walks.{exits}
use Rattle.verifier.proofs.rules.signature_present.Goals as goal

pub returns-in_err-operands_present : goal.returns-in_err-operands_present
returns-in_err-operands_present g c =
    let ps = g.T.ClassTable.listed c.args.table.now in
    let e = entry_of c.args.entry.now in
    exits c.from_residual.result _ c.from_residual.ensures.1
    ∙ signature_by ps e _ (Err c.in_err-operands_present.field-0.0) _
    (c.in_err-operands_present.ensures ∙ ap (λ cs. classes_present ps 0 (e.class ∷ cs)) (map-id _)) refl refl

pub returns : goal.returns
returns g c =
    let ps = g.T.ClassTable.listed c.args.table.now in
    let e = entry_of c.args.entry.now in
    signature_by ps e c.len.result (Ok c.in_ok-operands_present.field-0) c.present.result
    (c.in_ok-operands_present.ensures ∙ ap (λ cs. classes_present ps 0 (e.class ∷ cs)) (map-id _)) c.len.ensures c.present.ensures
