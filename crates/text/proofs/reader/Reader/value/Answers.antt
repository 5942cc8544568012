use Rattle.std.proofs.Common.{rules}
use Rattle.text.specs.Lines.{left_of}
use Rattle.text.proofs.Words.{said_by, given_line}
use Rattle.text.proofs.reader.Reader.value.Goals as goal

pub returns : goal.returns
returns g c =
    given_line _ c.args.word.now (left_of c.args.self.now) (left_of c.line.new.self) c.in_ok-value.value c.read.result c.map_err.result c.in_ok-value.ensures.value c.in_ok-value.ensures.after c.read.ensures
    (said_by _ c.in_ok-value.value.at c.read.result c.map_err.result c.map_err.ensures.cases (λ f d k. search rules))
