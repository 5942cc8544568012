use Rattle.std.proofs.Common.{◌≡◌, ap, ◌∙◌, sym}
use Rattle.semantics.specs.Items.{items_of}
use Rattle.writer.specs.Putting.{put}
use Rattle.writer.proofs.Texts.{code_lines, label_lines, put_lines}
use Rattle.writer.proofs.lines.MethodText.put.Goals as goal

pub returns : goal.returns
returns c =
    let m = c.args.self.now in
    let labels : c.each.new.self ≡ put (label_lines (items_of m.labels)) c.enclosed-5.new.self = c.each.ensures ∙ ap (λ ls. put (label_lines ls) c.enclosed-5.new.self) c.as_slice.ensures in
    let code : c.each-2.new.self ≡ put (code_lines (items_of m.code)) c.each.new.self = c.each-2.ensures ∙ ap (λ os. put (code_lines os) c.each.new.self) c.as_slice-2.ensures in
    (cc) ∙ sym (put_lines m c.args.out.now)
