-- What the contracts of `tile_point` and `cxf_tile_point`, as their sources write them, permit on some points: document 01, "Tile points". Assumes nothing.
use mathlib.Core.Path.{◌≡◌, refl, ◌∙◌}
use mathlib.Core.Bool.{false}
use lib.IntN.{ℤ, pos, negsuc}
use lib.Ieee.{fin}
use Rattle.std.specs.Prelude.{Option, Some, None}
use contract.Lifetimes.{Lfts}
use borrow.Fn.World.{ArgsD, ResD}
use denote.Triple.Clauses.{AtExit}
use Rattle.number.specs.Number.{is_real}
use Rattle.tile.specs.declared.Offset.{Offset}
use Rattle.tile.specs.Tiles.{in_frame, fits, tile_of}
use Rattle.tile.specs.Examples.{the-example}
use Rattle.tile.specs.contracts.tile_point as tile-point
use Rattle.tile.proofs.tile_point.Reads as tile-point-reads
use Rattle.told.specs.declared.CxfTile.{CxfTile}
use Rattle.told.specs.Told.{tile_told}
use Rattle.cabi.specs.contracts.cxf_tile_point as cxf-tile-point
use Rattle.cabi.proofs.cxf_tile_point.Reads as cxf-tile-point-reads

-- ---- the answers, computed, beside tile/specs/Examples: the-example (1000 and 512 give 3.90625 and 2.0)

-- one past the frame in the east; one past the corner in the south
east-of : tile_of (pos 2000) (pos 5000000512) (pos 16779216) (pos 5000000000) ≡ None
unfolding tile_of fits is_real in_frame
east-of = refl

north-of : tile_of (pos 2000) (pos 5000000512) (pos 3000) (pos 5000000513) ≡ None
unfolding tile_of fits is_real in_frame
north-of = refl

-- ---- `tile_point`

module _ (κs : Lfts 0) (a : ArgsD tile-point.signature κs) (r : ResD tile-point.signature κs) (e : AtExit tile-point.ended κs) (post : tile-point-reads.Learnt κs a r e) where
  -- for this corner and point this answer alone is permitted
  abbrev pub Only : ℤ → ℤ → ℤ → ℤ → Option Offset → Type 0
  Only west north x y t = a.0 ≡ west → a.1.0 ≡ north → a.1.1.0 ≡ x → a.1.1.1.0 ≡ y → r ≡ t

  only : {west north x y : ℤ} {t : Option Offset} → tile_of west north x y ≡ t → Only west north x y t
  only q west north x y = post ∙ rw (west, north, x, y) q

  -- 125 times 2 to the -5th is 3.90625
  pub tile-answers : Only (pos 2000) (pos 5000000512) (pos 3000) (pos 5000000000) (Some (record { east = fin false 125 (negsuc 4); south = fin false 1 (pos 1) }))
  tile-answers = only the-example

  pub tile-east-of : Only (pos 2000) (pos 5000000512) (pos 16779216) (pos 5000000000) None
  tile-east-of = only east-of

  pub tile-north-of : Only (pos 2000) (pos 5000000512) (pos 3000) (pos 5000000513) None
  tile-north-of = only north-of

-- ---- `cxf_tile_point`

module _ (κs : Lfts 0) (a : ArgsD cxf-tile-point.signature κs) (r : ResD cxf-tile-point.signature κs) (e : AtExit cxf-tile-point.ended κs) (post : cxf-tile-point-reads.Learnt κs a r e) where
  abbrev pub CxfOnly : ℤ → ℤ → ℤ → ℤ → CxfTile → Type 0
  CxfOnly west north x y t = a.0 ≡ west → a.1.0 ≡ north → a.1.1.0 ≡ x → a.1.1.1.0 ≡ y → r ≡ t

  cxf-only : {west north x y : ℤ} {t : Option Offset} → tile_of west north x y ≡ t → CxfOnly west north x y (tile_told t)
  cxf-only q west north x y = post ∙ rw (west, north, x, y, q) refl

  pub cxf-tile-answers : CxfOnly (pos 2000) (pos 5000000512) (pos 3000) (pos 5000000000) (record { number = 0; east = fin false 125 (negsuc 4); south = fin false 1 (pos 1) })
  cxf-tile-answers = cxf-only the-example

  pub cxf-tile-east-of : CxfOnly (pos 2000) (pos 5000000512) (pos 16779216) (pos 5000000000) (record { number = 20; east = fin false 0 (pos 0); south = fin false 0 (pos 0) })
  cxf-tile-east-of = cxf-only east-of

  pub cxf-tile-north-of : CxfOnly (pos 2000) (pos 5000000512) (pos 3000) (pos 5000000513) (record { number = 20; east = fin false 0 (pos 0); south = fin false 0 (pos 0) })
  cxf-tile-north-of = cxf-only north-of
