-- The two laws of the texts.
use Rattle.semantics.proofs.TextLaws.{written_is_read, read_was_written}
use Rattle.semantics.proofs.laws.text_laws.Goals as goal

pub returns : goal.returns
returns c = (written_is_read, read_was_written)
