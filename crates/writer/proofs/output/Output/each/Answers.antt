use Rattle.std.proofs.Common.{◌∙◌}
use Rattle.writer.specs.Putting.{enclosed}
use Rattle.writer.proofs.Putting.{put_each}
use Rattle.writer.proofs.output.Output.each.Goals as goal

pub loop-item-preserved : goal.loop-item-preserved
loop-item-preserved g c =
    rw c.enclosed.ensures (put_each (λ x. enclosed c.args.before.now (g.T.Text.text x) c.args.after.now) c.args.items.now c.loop-item.item-index c.loop-item.self c.loop-item-test.true c.item-item.is ∙ c.loop-item.invariant)
