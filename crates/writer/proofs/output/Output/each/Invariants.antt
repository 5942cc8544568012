use Rattle.std.proofs.Common.{◌≡◌, drop}
use Rattle.std.specs.List.{flat_map}
use Rattle.writer.specs.Putting.{enclosed, put}
use Rattle.writer.proofs.output.Output.each.Given as goal

abbrev pub invariant-loop-item : goal.invariant-loop-item
invariant-loop-item g l =
    let each = flat_map (λ x. enclosed l.before (g.T.Text.text x) l.after) in
    put (each (drop l.item-index l.items)) l.self ≡ put (each l.items) l.initial.self
