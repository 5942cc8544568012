-- Rows of cells. Whatever a cell is, one function tells its class.
use Rattle.std.specs.Prelude.{ℕ, Bool, true, false, ◌&&◌, List, [], ◌∷◌}
use Rattle.semantics.specs.Tree.{Up, fits}

-- a cell fits a cell when its class fits
abbrev pub cell_fits : {X Y : Type 0} → List ℕ → (X → ℕ) → (Y → ℕ) → X → Y → Bool
cell_fits ps kind other x y = fits ps (kind x) (other y)

-- a row fits a row of the same length when each cell fits
abbrev pub row_fits : {X Y : Type 0} → List ℕ → (X → ℕ) → (Y → ℕ) → List X → List Y → Bool
row_fits ps kind other [] [] = true
row_fits ps kind other [] (y ∷ ys) = false
row_fits ps kind other (x ∷ xs) [] = false
row_fits ps kind other (x ∷ xs) (y ∷ ys) = cell_fits ps kind other x y && row_fits ps kind other xs ys

-- the same in words: each cell's class is, or lies below, that of the cell at its place
pub data FitsEach {X Y : Type 0} (ps : List ℕ) (kind : X → ℕ) (other : Y → ℕ) : List X → List Y → Type 0 where
  none : FitsEach ps kind other [] []
  cell : {x : X} {y : Y} {xs : List X} {ys : List Y} → Up ps (kind x) (other y) → FitsEach ps kind other xs ys
      → FitsEach ps kind other (x ∷ xs) (y ∷ ys)
