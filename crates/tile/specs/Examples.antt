-- The document's own example and the corner itself, by computation.
use Rattle.std.specs.Prelude.{◌≡◌, refl, false, ℤ, pos, negsuc, Option, Some, None}
use Rattle.std.specs.Int.Count.{count_trailing_zeros}
use Rattle.std.specs.Float.{fin}
use Rattle.std.specs.Float.Ieee.{round, div, of_int, size, span, climb, units, odd}
use Rattle.tile.specs.declared.Offset.{Offset}
use Rattle.number.specs.Number.{is_real}
use Rattle.tile.specs.Tiles.{in_frame, fits, scaled, tile_of, number_of}

-- `tile_of` with every definition opened, so that it computes
unfoldable pub computed : ℤ → ℤ → ℤ → ℤ → Option Offset
unfolding tile_of fits is_real in_frame scaled div of_int round size span climb units odd count_trailing_zeros
computed west north x y = tile_of west north x y

-- difference 1000, 512: 3.90625, that is 125 / 32, and 2.0
pub the-example : tile_of (pos 2000) (pos 5000000512) (pos 3000) (pos 5000000000) ≡ Some (record { east = fin false 125 (negsuc 4); south = fin false 1 (pos 1) })
unfolding computed
the-example = refl

-- zero is +0.0
the-corner : tile_of (pos 7) (negsuc 6) (pos 7) (negsuc 6) ≡ Some (record { east = fin false 0 (pos 0); south = fin false 0 (pos 0) })
unfolding computed
the-corner = refl

-- 16,777,215 is the last difference
past-the-frame : number_of (tile_of (pos 0) (pos 0) (pos 16777216) (pos 0)) ≡ 20
unfolding computed
past-the-frame = refl

-- the last difference, east and south: 16,777,215 / 256
the_last : tile_of (pos 0) (pos 16777215) (pos 16777215) (pos 0) ≡ Some (record { east = fin false 16777215 (negsuc 7); south = fin false 16777215 (negsuc 7) })
unfolding computed
the_last = refl

-- one more to the south; one to the west, one to the north
outside : (tile_of (pos 0) (pos 16777216) (pos 0) (pos 0) ≡ None) × (tile_of (pos 1) (pos 0) (pos 0) (pos 0) ≡ None) × (tile_of (pos 0) (pos 0) (pos 0) (pos 1) ≡ None)
unfolding computed
outside = (refl, refl, refl)

-- a number past the real range, where the differences are 0
past-the-range : (tile_of (pos 100000000000) (pos 0) (pos 100000000000) (pos 0) ≡ None) × (tile_of (pos 0) (negsuc 9999999999) (pos 0) (negsuc 9999999999) ≡ None)
unfolding computed
past-the-range = (refl, refl)
