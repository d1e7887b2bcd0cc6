-- The same rule as the code has it: doubled coordinates taken from the grid's corner, heights southward. Assumes nothing: these are definitions.
use Rattle.std.specs.Prelude.{◌≡◌, Bool, ◌&&◌, List, ℕ, ◌≤◌, ◌<◌, ltb, length, get_or, ℤ, pos, ◌+ℤ◌, ◌-ℤ◌, ◌*ℤ◌}
use Rattle.std.specs.Int.Bits.{bit_xor}
use Rattle.std.specs.Int.Signed.{lt_z, le_z}
use Rattle.plane.specs.Rings.{x-at, y-at}
use Rattle.grid.specs.Inside.{twice, centre_at}
use Rattle.grid.specs.Words.{grid_side, row_word}

-- how far a vertex lies from the corner at most, doubled
abbrev pub grid_reach : ℕ
grid_reach = 80000000

-- vertex v, so far east and so far south of the corner
abbrev pub eastward : List ℤ → ℤ → ℕ → ℤ
eastward ps cx v = twice (x-at ps v -ℤ cx)

abbrev pub southward : List ℤ → ℤ → ℕ → ℤ
southward ps cy v = twice (cy -ℤ y-at ps v)

-- of 64 centres in line, `step` from the start and then 2 * step apart, the first k lie before the bound, and no other
pub record CentresBefore (step : ℕ) (bound : ℤ) (k : ℕ) : Type 0 where
  pub most : k ≤ grid_side
  pub splits : (c : ℕ) → c < grid_side → lt_z (pos (centre_at step c)) bound ≡ ltb c k

-- of the 64 rows the first k lie no further south than v
pub record RowsTo (s : ℕ) (v : ℤ) (k : ℕ) : Type 0 where
  pub most : k ≤ grid_side
  pub splits : (r : ℕ) → r < grid_side → le_z (pos (centre_at s r)) v ≡ ltb r k

-- the edge from (nx, nv) down to (sx, sv) crosses height w strictly east of x
unfoldable pub east-from : ℤ → ℤ → ℤ → ℤ → ℤ → ℤ → Bool
east-from nx nv sx sv w x = lt_z (x *ℤ (sv -ℤ nv)) (nx *ℤ (sv -ℤ w) +ℤ sx *ℤ (w -ℤ nv))

-- the cell in row r, column c lies at a height that the edge crosses on its way down, strictly west of the crossing
unfoldable pub west-of-edge : ℤ → ℤ → ℤ → ℤ → ℕ → ℕ → ℕ → Bool
west-of-edge nx nv sx sv s r c =
    (lt_z nv (pos (centre_at s r)) && le_z (pos (centre_at s r)) sv) && east-from nx nv sx sv (pos (centre_at s r)) (pos (centre_at s c))

-- every cell that the test gives is turned over
pub record Xored (before after : List ℕ) (p : ℕ → ℕ → Bool) : Type 0 where
  pub sized : length after ≡ length before
  pub turns : (r : ℕ) → r < grid_side → get_or after r 0 ≡ bit_xor (get_or before r 0) (row_word (p r) grid_side)

-- the rows hold, cell by cell, what the test gives
pub record RowsHold (p : ℕ → ℕ → Bool) (rows : List ℕ) : Type 0 where
  pub sized : length rows ≡ grid_side
  pub each : (r : ℕ) → r < grid_side → get_or rows r 0 ≡ row_word (p r) grid_side
