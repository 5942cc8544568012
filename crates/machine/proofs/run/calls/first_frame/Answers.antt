use Rattle.std.proofs.Common.{Ok, Err, sym, ap, ◌∙◌}
use Rattle.std.specs.Option.{option_copied}
use Rattle.semantics.specs.Items.{items_of}
use Rattle.semantics.proofs.Walks.{exits}
use Rattle.verifier.specs.Answers.{answered}
use Rattle.machine.specs.Frames.{frame_of}
use Rattle.machine.proofs.Beginning.{told_as, first_by}
use Rattle.machine.proofs.run.calls.first_frame.Goals as goal

pub returns-in_err-map_err : goal.returns-in_err-map_err
returns-in_err-map_err g c =
    let s = c.args.store.now in
    ap (answered frame_of) (exits c.from_residual-in_err-map_err.result c.in_err-map_err.field-0.0 c.from_residual-in_err-map_err.ensures.1)
    ∙ first_by (g.T.ClassTable.listed s.env.table.now) s.env.entries.now s.bodies.now c.args.call.now.receiver c.args.name (items_of c.args.call.now.arguments) c.in_ok-row.row c.in_ok-code.code.now c.index-env-row.result (option_copied c.code_at.result) c.as_slice.result.now c.taking.result c.map_err.result (Err c.in_err-map_err.field-0.0)
    (sym c.in_ok-row.ensures.ok_part ∙ c.lookup.ensures.value) c.code_at.ensures (ap option_copied c.in_ok-code.ensures.ok_part) c.index-env-row.is (c.as_slice.ensures ∙ c.kinds-kinds.ensures) c.taking.ensures (told_as c.taking.result c.map_err.result c.map_err.ensures.cases) c.in_err-map_err.was

pub returns : goal.returns
returns g c =
    let s = c.args.store.now in
    ap Ok c.opened.ensures
    ∙ first_by (g.T.ClassTable.listed s.env.table.now) s.env.entries.now s.bodies.now c.args.call.now.receiver c.args.name (items_of c.args.call.now.arguments) c.in_ok-row.row c.in_ok-code.code.now c.index-env-row.result (option_copied c.code_at.result) c.as_slice.result.now c.taking.result c.map_err.result (Ok c.in_ok-map_err.field-0)
    (sym c.in_ok-row.ensures.ok_part ∙ c.lookup.ensures.value) c.code_at.ensures (ap option_copied c.in_ok-code.ensures.ok_part) c.index-env-row.is (c.as_slice.ensures ∙ c.kinds-kinds.ensures) c.taking.ensures (told_as c.taking.result c.map_err.result c.map_err.ensures.cases) c.in_ok-map_err.was
