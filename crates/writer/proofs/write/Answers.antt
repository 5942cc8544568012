use Rattle.std.proofs.Common.{◌≤◌, length, sym, ◌∙◌, arith}
use Rattle.std.proofs.lemmas.Bool.{le-leb, cond-true}
use Rattle.semantics.specs.Methods.{method_of}
use Rattle.semantics.specs.Printing.{method_text}
use Rattle.writer.proofs.Bounds.{method_short}
use Rattle.writer.proofs.Filling.{back, put_whole}
use Rattle.writer.proofs.write.Goals as goal

pub fill-needed-requires : goal.fill-needed-requires
fill-needed-requires c = method_short c.args.method.now

pub returns-clause-text : goal.returns-clause-text
returns-clause-text c =
    let xs = method_text (method_of c.args.method.now) in
    let h : length xs ≤ length c.args.buffer.now = omega (arith, c.fill-needed.ensures.count) in
    c.fill.ensures.kept ∙ put_whole xs c.args.buffer.now h ∙ sym (cond-true _ _ _ (le-leb (length xs) (length c.args.buffer.now) h))

pub returns-clause-back : goal.returns-clause-back
returns-clause-back c =
    let m = method_of c.args.method.now in
    let h : length (method_text m) ≤ length c.args.buffer.now = omega (arith, c.fill-needed.ensures.count) in
    back m c.args.buffer.now h c.fill.ensures.count c.fill.ensures.kept
