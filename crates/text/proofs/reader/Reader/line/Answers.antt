use Rattle.std.proofs.Common.{◌≡◌, Some, sym, ap, ◌∙◌}
use Rattle.std.specs.Result.{result_ok}
use Rattle.semantics.proofs.Walks.{exits}
use Rattle.text.specs.Lines.{piece_read, line_of, left_of}
use Rattle.text.specs.Parts.{piece_of, pieces_in, cut}
use Rattle.text.proofs.Words.{line_value}
use Rattle.text.proofs.reader.Reader.line.Goals as goal
use Rattle.text.proofs.reader.Reader.line.Goals.{After-ok_or-2}

-- what the line is, by the value behind the word
found : (c : After-ok_or-2) → piece_read c.ok_or-2.result ≡ line_of c.args.word.now (left_of c.args.self.now)
found c =
    let e : Some (piece_of c.in_ok-line.line, piece_of c.in_ok-line.left) ≡ cut 10 (left_of c.args.self.now) = ap pieces_in (sym (c.ok_or.ensures.ok_part ∙ ap result_ok c.in_ok-line.was)) ∙ c.split_once.ensures in
    line_value c.args.word.now (left_of c.args.self.now) (piece_of c.in_ok-line.line) (piece_of c.in_ok-line.left) c.strip_prefix.result c.ok_or-2.result c.requires e c.strip_prefix.ensures c.ok_or-2.ensures.value

pub returns-in_err-value-clause-value : goal.returns-in_err-value-clause-value
returns-in_err-value-clause-value c =
    ap piece_read (exits c.from_residual-in_err-value.result _ c.from_residual-in_err-value.ensures.1 ∙ sym c.in_err-value.was)
    ∙ found (goal.at.returns-in_err-value-clause-value c).After-ok_or-2

pub returns-clause-value : goal.returns-clause-value
returns-clause-value c = ap piece_read (sym c.in_ok-value.was) ∙ found (goal.at.returns-clause-value c).After-ok_or-2
