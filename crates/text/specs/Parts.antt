-- What the reader's parts mean: pieces of the text, and lists of them.
use Rattle.std.specs.Prelude.{ℕ, ◌+◌, cond, List, [], ◌∷◌, length, take, drop, Some, None, Ok, Err, Option, Result, nat_lt}
use Rattle.semantics.specs.declared.refusal.Fault.{Fault}
use Rattle.semantics.specs.declared.refusal.Fault.TheVariants.{Malformed}
use Rattle.semantics.specs.Pieces.{Piece, piece, up_to, parted}
use Rattle.semantics.specs.Reading.{begins}
use Rattle.semantics.specs.Values.{Said}
use Rattle.text.specs.declared.part.Part.{Part}
use Rattle.text.specs.declared.part.Parts.{Parts}

abbrev pub piece_of : Part → Piece
piece_of v = piece v.at v.bytes.now

abbrev pub piece_in : Option Part → Option Piece
piece_in (Some v) = Some (piece_of v)
piece_in None = None

abbrev pub piece_said : Result Part Fault → Said Piece
piece_said (Ok v) = Ok (piece_of v)
piece_said (Err f) = Err f

-- a byte and the part behind it
abbrev pub byte_and_piece : Option (ℕ × Part) → Option (ℕ × Piece)
byte_and_piece (Some x) = Some (x.0, piece_of x.1)
byte_and_piece None = None

abbrev pub pieces_in : Option (Part × Part) → Option (Piece × Piece)
pieces_in (Some x) = Some (piece_of x.0, piece_of x.1)
pieces_in None = None

-- the first byte of a piece, and the piece behind it
abbrev pub opened_at : ℕ → List ℕ → Option (ℕ × Piece)
opened_at p [] = None
opened_at p (c ∷ cs) = Some (c, piece (p + 1) cs)

abbrev pub opened : Piece → Option (ℕ × Piece)
opened v = opened_at v.place v.held

-- the pieces before and behind the first separator, if there is one
abbrev pub cut : ℕ → Piece → Option (Piece × Piece)
cut sep v =
    cond (nat_lt (up_to sep v.held) (length v.held))
    (Some (piece v.place (take (up_to sep v.held) v.held), piece (v.place + (up_to sep v.held + 1)) (drop (up_to sep v.held + 1) v.held)))
    None

-- the piece behind the word that it begins with
abbrev pub behind_word : List ℕ → Piece → Option Piece
behind_word w v = cond (begins w v.held) (Some (piece (v.place + length w) (drop (length w) v.held))) None

-- the parts that are still to be handed out
abbrev pub parts_in : ℕ → Option Part → List Piece
parts_in sep (Some v) = parted sep v.at v.bytes.now
parts_in sep None = []

abbrev pub parts_left : Parts → List Piece
parts_left ps = parts_in ps.separator ps.left

abbrev pub rest : List Piece → List Piece
rest [] = []
rest (v ∷ vs) = vs

-- a part is due, or none is
abbrev pub taken : List Piece → Said Piece
taken [] = Err Malformed
taken (v ∷ vs) = Ok v

abbrev pub ended : List Piece → Said (Unit {0})
ended [] = Ok tt
ended (v ∷ vs) = Err Malformed

-- what the only part says
abbrev pub only : {X : Type 0} → (Piece → Said X) → List Piece → Said X
only says [] = Err Malformed
only says (v ∷ []) = says v
only says (v ∷ w ∷ vs) = Err Malformed
