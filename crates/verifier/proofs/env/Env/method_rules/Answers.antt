use Rattle.std.proofs.Common.{not, map, Ok, Err, refl, ap, ◌∙◌}
use Rattle.semantics.specs.declared.refusal.Refusal.TheVariants.{NameTaken}
use Rattle.semantics.specs.Entries.{entry_of, entry_in}
use Rattle.semantics.specs.Form.{must}
use Rattle.semantics.specs.Methods.{method_of}
use Rattle.semantics.specs.NewRows.{classes_present, entry_classes, row_classes, taken, agrees}
use Rattle.semantics.specs.Reading.{so}
use Rattle.verifier.proofs.NewEntries.{rules_by}
use Rattle.semantics.proofs.Walks.{exits}
use Rattle.verifier.proofs.env.Env.method_rules.Goals as goal

pub returns-in_err-signature_present : goal.returns-in_err-signature_present
returns-in_err-signature_present g c =
    let ps = g.T.ClassTable.listed c.args.self.now.table.now in
    let m = method_of c.args.method.now in
    exits c.from_residual.result _ c.from_residual.ensures.1
    ∙ rules_by ps (map entry_of c.args.self.now.entries.now) (entry_in m) (row_classes m.labels) (Err c.in_err-signature_present.field-0.0) _ _
    (c.in_err-signature_present.ensures ∙ ap (λ e. classes_present ps 0 (entry_classes e)) c.entry_in-entry.ensures) refl refl

pub returns-in_err-rows_present : goal.returns-in_err-rows_present
returns-in_err-rows_present g c =
    let ps = g.T.ClassTable.listed c.args.self.now.table.now in
    let m = method_of c.args.method.now in
    exits c.from_residual-in_err-rows_present.result _ c.from_residual-in_err-rows_present.ensures.1
    ∙ rules_by ps (map entry_of c.args.self.now.entries.now) (entry_in m) (row_classes m.labels) (Ok tt) (Err c.in_err-rows_present.field-0.0) _
    (c.in_ok-signature_present.ensures ∙ ap (λ e. classes_present ps 0 (entry_classes e)) c.entry_in-entry.ensures) c.in_err-rows_present.ensures refl

pub returns : goal.returns
returns g c =
    let ps = g.T.ClassTable.listed c.args.self.now.table.now in
    let es = map entry_of c.args.self.now.entries.now in
    let m = method_of c.args.method.now in
    rules_by ps es (entry_in m) (row_classes m.labels) (Ok tt) (Ok tt) c.goes_with.result
    (c.in_ok-signature_present.ensures ∙ ap (λ e. classes_present ps 0 (entry_classes e)) c.entry_in-entry.ensures) c.in_ok-rows_present.ensures
    (c.goes_with.ensures ∙ ap (λ e. so (must (not (taken e es)) NameTaken) (λ _. agrees ps e 0 es)) c.entry_in-entry.ensures)
