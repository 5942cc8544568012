-- A text that is filled keeps the laws of filling.
use Rattle.std.proofs.Common.{ℕ, List}
use Rattle.semantics.specs.Entries.{EntryDef}
use Rattle.semantics.specs.Tree.{Tree}
use Rattle.semantics.proofs.FillCalls.{text_fills_lawfully}
use Rattle.filler.specs.Fills.{FillsLawfully}

pub fills_lawfully : (ps : List ℕ) (es : List EntryDef) (t : List ℕ) → Tree ps → FillsLawfully ps es t
fills_lawfully ps es t tree m said formed rules known agree = text_fills_lawfully ps es t tree known agree m said formed rules
