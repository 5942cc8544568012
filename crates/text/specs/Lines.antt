-- What the reader of lines means: what is left of the text, and what was read in front of it.
use Rattle.std.specs.Prelude.{◌≡◌, ℕ, cond, List, Ok, Err, Result, MatchResult}
use Rattle.semantics.specs.declared.refusal.Refusal.{Refusal}
use Rattle.semantics.specs.declared.refusal.Refusal.TheVariants.{Line}
use Rattle.semantics.specs.Pieces.{Piece}
use Rattle.semantics.specs.Reading.{Read, read, is_line, value_in, behind, said_in}
use Rattle.semantics.specs.Values.{Said}
use Rattle.text.specs.declared.part.Part.{Part}
use Rattle.text.specs.declared.reader.Reader.{Reader}
use Rattle.text.specs.Parts.{piece_of}

abbrev pub left_of : Reader → Piece
left_of r = piece_of r.left

abbrev pub piece_read : Result Part Refusal → Result Piece Refusal
piece_read (Ok v) = Ok (piece_of v)
piece_read (Err e) = Err e

-- the value of the next line, which is to have that word
abbrev pub line_of : List ℕ → Piece → Result Piece Refusal
line_of w v = cond (is_line w v.held) (Ok (value_in w v)) (Err (Line v.place))

-- what is read in the value of the next line, as Gives says of a part, and what is left then; or the refusal
abbrev pub GivesLine : {X : Type 0} → (Part → Said X → Type 0) → List ℕ → Piece → Result X Refusal → Piece → Type 0
GivesLine {X} Gives w v r v' = MatchResult (line_of w v) (λ u. (p : Part) × (s : Said X) × (piece_of p ≡ u) × Gives p s × (r ≡ said_in u.place s) × (v' ≡ behind v)) (λ e. r ≡ Err e)

abbrev pub itself : {X : Type 0} → X → X
itself x = x

-- a result by its meaning f, and what is left behind it
abbrev pub read_as : {X Y : Type 0} → (X → Y) → Result X Refusal → Piece → Result (Read Y) Refusal
read_as f (Ok x) v = Ok (read (f x) v)
read_as f (Err e) v = Err e
