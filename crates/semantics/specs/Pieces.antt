-- Parts of a text with their byte places, and what separators part.
use Rattle.std.specs.Prelude.{ℕ, suc, ◌+◌, cond, List, [], ◌∷◌, ◌++◌, ◌==◌}

-- some bytes, and the place of the first of them in the text
pub record Piece : Type 0 where
  pub place : ℕ
  pub held : List ℕ

abbrev pub piece : ℕ → List ℕ → Piece
piece p s = record { place = p; held = s }

-- how many bytes stand before the first that is sep
abbrev pub up_to : ℕ → List ℕ → ℕ
up_to sep [] = 0
up_to sep (c ∷ cs) = cond (c == sep) 0 (suc (up_to sep cs))

-- a byte in front of the first piece
abbrev pub onto : ℕ → ℕ → List Piece → List Piece
onto c p [] = piece p (c ∷ []) ∷ []
onto c p (d ∷ ds) = piece p (c ∷ d.held) ∷ ds

-- what the separators part: one piece more than there are separators
abbrev pub parted : ℕ → ℕ → List ℕ → List Piece
parted sep p [] = piece p [] ∷ []
parted sep p (c ∷ cs) = cond (c == sep) (piece p [] ∷ parted sep (p + 1) cs) (onto c p (parted sep (p + 1) cs))

-- the same, where nothing stands for no piece
abbrev pub parted_or_none : ℕ → ℕ → List ℕ → List Piece
parted_or_none sep p [] = []
parted_or_none sep p (c ∷ cs) = parted sep p (c ∷ cs)

abbrev pub joined_by : ℕ → List (List ℕ) → List ℕ
joined_by sep [] = []
joined_by sep (x ∷ []) = x
joined_by sep (x ∷ y ∷ ys) = x ++ (sep ∷ joined_by sep (y ∷ ys))
