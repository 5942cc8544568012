use Rattle.std.proofs.Common.{ap, ◌∙◌}
use Rattle.text.specs.Parts.{piece_of, piece_in}
use Rattle.text.proofs.Words.{word_none, word_some}
use Rattle.text.proofs.part.Part.strip_prefix.Goals as goal

pub returns-in_err-bytes : goal.returns-in_err-bytes
returns-in_err-bytes c = ap piece_in c.from_residual.ensures ∙ word_none c.args.word.now (piece_of c.args.self) c.in_err-bytes.ensures.cases

pub returns : goal.returns
returns c = let e = c.in_ok-bytes.ensures.cases in word_some c.args.word.now (piece_of c.args.self) c.in_ok-bytes.bytes.now e.0 e.1
