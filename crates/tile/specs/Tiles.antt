-- Tile points (document 01, "Tile points"): east difference and south difference, "each converted and then divided once by 256".
use Rattle.std.specs.Prelude.{Bool, false, cond, ◌&&◌, ℕ, ℤ, pos, ◌-ℤ◌, Float, Option, Some, None}
use Rattle.std.specs.Int.Signed.{le_z}
use Rattle.std.specs.Float.{fin, binary32}
use Rattle.std.specs.Float.Ieee.{div, of_int}
use Rattle.record.specs.Refusals.{off_tile}
use Rattle.number.specs.Number.{is_real}
use Rattle.tile.specs.declared.Offset.{Offset}

-- the largest difference
abbrev pub frame : ℕ
frame = 16777215

unfoldable pub in_frame : ℤ → Bool
in_frame d = le_z (pos 0) d && le_z d (pos frame)

-- both numbers are within the real range, and the second is past the first by no more than the frame
unfoldable pub fits : ℤ → ℤ → Bool
fits from to = is_real from && (is_real to && in_frame (to -ℤ from))

-- 256.0, that is 1 times 2 to the 8th
abbrev pub two-five-six : Float
two-five-six = fin false 1 (pos 8)

-- converted, and then divided once by 256
unfoldable pub scaled : ℤ → Float
scaled d = div binary32 (of_int binary32 d) two-five-six

unfoldable pub along_of : ℤ → ℤ → Option Float
along_of from to = cond (fits from to) (Some (scaled (to -ℤ from))) None

-- the answer: east is x less the corner's x, south is the corner's y less y
unfoldable pub tile_of : ℤ → ℤ → ℤ → ℤ → Option Offset
tile_of west north x y =
    cond (fits west x && fits y north)
    (Some (record { east = scaled (x -ℤ west); south = scaled (north -ℤ y) }))
    None

-- ---- the paper's number and values: the pair, each +0.0 where it is refused

abbrev pub number_of : Option Offset → ℕ
number_of (Some o) = 0
number_of None = off_tile

abbrev pub no_offset : Float
no_offset = fin false 0 (pos 0)

abbrev pub east_of : Option Offset → Float
east_of (Some o) = o.east
east_of None = no_offset

abbrev pub south_of : Option Offset → Float
south_of (Some o) = o.south
south_of None = no_offset
