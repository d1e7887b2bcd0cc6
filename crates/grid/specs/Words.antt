-- A grid of cells as numbers (document 02, T-03): "64 rows of 64 cells, one bit each, northern row first, west in the highest bit".
-- Assumes nothing: these are definitions.
use Rattle.std.specs.Prelude.{Bool, true, false, not, List, [], ◌∷◌, ◌++◌, ℕ, zero, suc, ◌+◌, ◌*◌}
use Rattle.std.specs.Int.Count.{ones}
use Rattle.grid.specs.Inside.{one_if}

-- rows of a grid, and cells of a row
abbrev pub grid_side : ℕ
grid_side = 64

-- the first n cells of a row as a number, the first in the highest bit
unfoldable pub row_word : (ℕ → Bool) → ℕ → ℕ
row_word p zero = 0
row_word p (suc n) = row_word p n * 2 + one_if (p n)

-- one of the two cells is set, not both
abbrev pub differs : Bool → Bool → Bool
differs true q = not q
differs false q = q

-- the first n rows
unfoldable pub row_words : (ℕ → ℕ → Bool) → ℕ → List ℕ
row_words p zero = []
row_words p (suc n) = row_words p n ++ row_word (p n) grid_side ∷ []

-- how many of a row's first n cells are set, and of the first n rows'
unfoldable pub cells_set : (ℕ → Bool) → ℕ → ℕ
cells_set p zero = 0
cells_set p (suc n) = cells_set p n + one_if (p n)

unfoldable pub all_cells_set : (ℕ → ℕ → Bool) → ℕ → ℕ
all_cells_set p zero = 0
all_cells_set p (suc n) = all_cells_set p n + cells_set (p n) grid_side

-- "the sum of each row's set bits"
unfoldable pub set_bits : List ℕ → ℕ
set_bits [] = 0
set_bits (w ∷ ws) = ones w + set_bits ws
