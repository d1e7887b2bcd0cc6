-- The mask of a border (document 02, T-03), refusals in the paper's order: 6, 15, 19, 26, 17, then 20. Assumes nothing: these are definitions.
use Rattle.std.specs.Prelude.{ℕ, List, Bool, cond, ◌&&◌, eqb, ℤ, replicate, Result, Ok, Err}
use Rattle.record.specs.Refusals.{too_wide, no_such, off_tile}
use Rattle.kinds.specs.Kinds.{vertices_place}
use Rattle.heading.specs.declared.Header.{Header}
use Rattle.sheet.specs.Tables.{Tables}
use Rattle.made.specs.Made.{nat_of, count_at, kind_of, islands_of, ring_sizes}
use Rattle.row.specs.declared.Stand.{Stand}
use Rattle.row.specs.declared.Unfound.{Unfound}
use Rattle.row.specs.declared.Unfound.TheVariants.{Missing as NoRow, Refused as NoSheet}
use Rattle.row.specs.Walk.{left_at}
use Rattle.row.specs.Seek.{sought_of}
use Rattle.plane.specs.declared.NoArea.{NoArea}
use Rattle.plane.specs.declared.NoArea.TheVariants.{Wide as AnyWide, Missing as AnyMissing}
use Rattle.area.specs.declared.Areas.{Areas}
use Rattle.area.specs.BorderRings.{areas_of}
use Rattle.grid.specs.Words.{grid_side, row_words, all_cells_set}
use Rattle.grid.specs.Cells.{is_cell_side, grid-real, near-from}
use Rattle.mask.specs.declared.Unmasked.{Unmasked}
use Rattle.mask.specs.declared.Unmasked.TheVariants.{BadSide, Wide, OffGrid, Missing, Refused}
use Rattle.mask.specs.declared.Mask.{Mask}
use Rattle.mask.specs.Covers.{covers}

-- the cells that a test gives, and how many they are
abbrev pub drawn : (ℕ → ℕ → Bool) → Mask
drawn p = record { answer = Ok (all_cells_set p grid_side); rows = row_words p grid_side }

-- a refusal, and no cell set
abbrev pub undrawn : Unmasked → Mask
undrawn e = record { answer = Err e; rows = replicate grid_side 0 }

-- a border of v vertices, its first the first of the points, that is neither missing nor too wide: 20, or its mask
unfoldable pub border_mask : ℕ → List ℕ → List ℤ → ℤ → ℤ → ℕ → Mask
border_mask v islands ps cx cy s = cond (grid-real cx cy s && near-from ps cx cy 0 v) (drawn (covers ps (ring_sizes v islands) cx cy s)) (undrawn OffGrid)

-- 17 is of any of its rings
abbrev pub mask_after : Mask → Result Areas NoArea → Mask
mask_after m (Ok a) = m
mask_after m (Err AnyWide) = undrawn Wide
mask_after m (Err AnyMissing) = undrawn Missing

-- a border: 26 "for a cell side outside 1 to 10,000", then 17, then 20
unfoldable pub mask_of : ℕ → List ℕ → List ℤ → ℤ → ℤ → ℕ → Mask
mask_of v islands ps cx cy s = cond (is_cell_side s) (mask_after (border_mask v islands ps cx cy s) (areas_of v islands ps)) (undrawn BadSide)

-- the first row of what is left: 19 where it is no border
unfoldable pub mask_of_row : Tables → ℤ → ℤ → ℕ → Mask
mask_of_row t cx cy s = cond (eqb (kind_of t) 1) (mask_of (count_at t vertices_place) (islands_of t) t.points cx cy s) (undrawn Missing)

-- a row of the sheet: the header (6), then 15, then 19
abbrev pub mask_found : ℤ → ℤ → ℕ → Tables → Result Stand Unfound → Mask
mask_found cx cy s t (Ok d) = mask_of_row (left_at t d) cx cy s
mask_found cx cy s t (Err NoRow) = undrawn Missing
mask_found cx cy s t (Err (NoSheet f)) = undrawn (Refused f)

-- a side below 0 is as good as 0
unfoldable pub mask_at : Header → ℕ → Tables → ℕ → ℤ → ℤ → ℤ → Mask
mask_at h count t row cx cy side = mask_found cx cy (nat_of side) t (sought_of h count t row)

-- ---- the paper's number and values: 15 alone returns a row; where it is refused no cell is covered

abbrev pub bad_side : ℕ
bad_side = 26

abbrev pub number_of : Result ℕ Unmasked → ℕ
number_of (Ok n) = 0
number_of (Err BadSide) = bad_side
number_of (Err Wide) = too_wide
number_of (Err OffGrid) = off_tile
number_of (Err Missing) = no_such
number_of (Err (Refused f)) = Rattle.made.specs.Made.number_of (Err f)

abbrev pub row_of : Result ℕ Unmasked → ℕ
row_of (Ok n) = 0
row_of (Err BadSide) = 0
row_of (Err Wide) = 0
row_of (Err OffGrid) = 0
row_of (Err Missing) = 0
row_of (Err (Refused f)) = Rattle.made.specs.Made.row_of (Err f)

abbrev pub covered_of : Result ℕ Unmasked → ℕ
covered_of (Ok n) = n
covered_of (Err e) = 0
