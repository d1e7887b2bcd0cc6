-- The cells of a ring on a grid, and where a grid and a ring may lie (document 02, T-03: "a cell side of 1 to 10,000 mm"; refusal 20 "if either end of the
-- grid is off the real range, or any vertex is more than 40,000,000 mm from the corner in x or y"). Assumes nothing: these are definitions.
use Rattle.std.specs.Prelude.{Bool, true, cond, ◌&&◌, List, ℕ, zero, suc, ◌+◌, ◌*◌, leb, length, ℤ, pos, nat_abs, ◌+ℤ◌, ◌-ℤ◌, Option, Some, None}
use Rattle.number.specs.Number.{is_real}
use Rattle.plane.specs.Rings.{x-at, y-at, held}
use Rattle.grid.specs.Inside.{ring-covers}
use Rattle.grid.specs.Words.{grid_side, row_words}

-- the longest side of a cell, and how far a vertex may lie from the corner, in millimetres
abbrev pub most_side : ℕ
most_side = 10000

abbrev pub farthest : ℕ
farthest = 40000000

unfoldable pub is_cell_side : ℕ → Bool
is_cell_side s = leb 1 s && leb s most_side

-- both ends of the grid, its north-west and its south-east corner, lie within the real range
unfoldable pub grid-real : ℤ → ℤ → ℕ → Bool
grid-real cx cy s = is_real cx && (is_real cy && (is_real (cx +ℤ pos (grid_side * s)) && is_real (cy -ℤ pos (grid_side * s))))

-- z is not more than 40,000,000 mm from c
unfoldable pub by-corner : ℤ → ℤ → Bool
by-corner c z = leb (nat_abs (z -ℤ c)) farthest

-- vertex v is not, in x and in y
unfoldable pub near-corner : List ℤ → ℤ → ℤ → ℕ → Bool
near-corner ps cx cy v = by-corner cx (x-at ps v) && by-corner cy (y-at ps v)

-- so are n vertices from vertex `from` on
unfoldable pub near-from : List ℤ → ℤ → ℤ → ℕ → ℕ → Bool
near-from ps cx cy from zero = true
near-from ps cx cy from (suc n) = near-from ps cx cy from n && near-corner ps cx cy (from + n)

-- there is such a cell, such a ring of n vertices from vertex `from` on, and such a grid
unfoldable pub laid : List ℤ → ℕ → ℕ → ℤ → ℤ → ℕ → Bool
laid ps from n cx cy s = is_cell_side s && (held (length ps) from n && grid-real cx cy s)

-- the cells that a test gives; and none, where there is no answer
abbrev pub traced_as : (ℕ → ℕ → Bool) → Option (List ℕ)
traced_as p = Some (row_words p grid_side)

abbrev pub untraced : Option (List ℕ)
untraced = None

-- the cells whose centres lie inside the ring
unfoldable pub ring_cells : List ℤ → ℕ → ℕ → ℤ → ℤ → ℕ → Option (List ℕ)
ring_cells ps from n cx cy s = cond (laid ps from n cx cy s && near-from ps cx cy from n) (traced_as (ring-covers ps from n cx cy s)) untraced
