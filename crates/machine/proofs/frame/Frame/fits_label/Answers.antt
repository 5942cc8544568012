use Rattle.std.proofs.Common.{map, ap, ◌∙◌}
use Rattle.semantics.specs.declared.misfit.Misfit.TheVariants.{Row}
use Rattle.semantics.specs.Check.{label_at_point}
use Rattle.semantics.specs.Items.{items_of}
use Rattle.semantics.specs.Methods.{label_of}
use Rattle.semantics.specs.Rows.{row_fits}
use Rattle.semantics.specs.Runs.{kind_of}
use Rattle.semantics.specs.Tests.{demand}
use Rattle.machine.specs.Frames.{frame_of}
use Rattle.machine.proofs.Places.{labelled_by, unlabelled_by}
use Rattle.machine.proofs.frame.Frame.fits_label.Goals as goal

pub returns-in-Some : goal.returns-in-Some
returns-in-Some g c =
    let ps = g.T.ClassTable.listed c.args.table.now in
    c.demand.ensures
    ∙ ap (λ b. demand b (Row 15)) (c.row_fits.ensures.value ∙ (λ i. row_fits ps kind_of (λ n. n) (c.as_slice.ensures i) (c.as_slice-in-Some.ensures i)))
    ∙ labelled_by ps (frame_of c.args.self.now).temporaries (label_at_point (map label_of c.args.labels.now) c.args.self.now.point) (items_of c.in-Some.row) c.in-Some.ensures

pub returns-in-None : goal.returns-in-None
returns-in-None g c =
    unlabelled_by (g.T.ClassTable.listed c.args.table.now) (frame_of c.args.self.now).temporaries (label_at_point (map label_of c.args.labels.now) c.args.self.now.point) c.in-None.ensures
