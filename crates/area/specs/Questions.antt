-- The questions about the areas of a row of a sheet that is handed in (document 01, "Areas"). Assumes nothing: these are definitions.
use Rattle.std.specs.Prelude.{ℕ, ◌+◌, ◌/◌, List, cond, eqb, ℤ, Option, Some, None, Result, Ok, Err}
use Rattle.record.specs.Refusals.{too_wide, no_such}
use Rattle.kinds.specs.Kinds.{vertices_place}
use Rattle.heading.specs.declared.Header.{Header}
use Rattle.sheet.specs.Tables.{Tables}
use Rattle.plane.specs.declared.NoArea.{NoArea}
use Rattle.plane.specs.declared.NoArea.TheVariants as NoArea
use Rattle.plane.specs.Areas.{area_of}
use Rattle.made.specs.Made.{count_at, kind_of, islands_of}
use Rattle.row.specs.declared.Stand.{Stand}
use Rattle.row.specs.declared.Unfound.{Unfound}
use Rattle.row.specs.declared.Unfound.TheVariants as Unfound
use Rattle.row.specs.Walk.{left_at}
use Rattle.row.specs.Seek.{sought_of}
use Rattle.area.specs.declared.RingPlace.{RingPlace}
use Rattle.area.specs.declared.AreaRefusal.{AreaRefusal}
use Rattle.area.specs.declared.AreaRefusal.TheVariants.{Wide, Missing, Refused}
use Rattle.area.specs.BorderRings.{areas_of, net_of, ring_place, ring_of}

-- ---- the first row of what is left; a row that is no border has no areas

-- one ring of it: its first vertex in the table of points, where the row's own begin at `first`
abbrev pub ring_from : ℕ → Option RingPlace → Option RingPlace
ring_from first (Some p) = Some (ring_place (first + p.from) p.count)
ring_from first None = None

unfoldable pub ring_of_row : Tables → ℕ → ℕ → Option RingPlace
ring_of_row t first ring = cond (eqb (kind_of t) 1) (ring_from first (ring_of (count_at t vertices_place) (islands_of t) ring)) None

unfoldable pub net_area_of : Tables → Result ℤ NoArea
net_area_of t = cond (eqb (kind_of t) 1) (net_of (areas_of (count_at t vertices_place) (islands_of t) t.points)) (Err NoArea.Missing)

-- ---- a row of the sheet: the header (6), then 15, then 19, before 17

-- what a ring that has no area is refused as, and a row that is not found
abbrev pub ring_refused : NoArea → AreaRefusal
ring_refused NoArea.Wide = Wide
ring_refused NoArea.Missing = Missing

abbrev pub row_refused : Unfound → AreaRefusal
row_refused Unfound.Missing = Missing
row_refused (Unfound.Refused f) = Refused f

abbrev pub answer_of : Result ℤ NoArea → Result ℤ AreaRefusal
answer_of (Ok d) = Ok d
answer_of (Err e) = Err (ring_refused e)

-- a row without that ring is refused as a missing one
abbrev pub ring_or_missing : Option RingPlace → Result RingPlace Unfound
ring_or_missing (Some p) = Ok p
ring_or_missing None = Err Unfound.Missing

abbrev pub ring_found : Tables → ℕ → Result Stand Unfound → Result RingPlace Unfound
ring_found t ring (Ok d) = ring_or_missing (ring_of_row (left_at t d) (d.points / 2) ring)
ring_found t ring (Err e) = Err e

unfoldable pub ring_at : Header → ℕ → Tables → ℕ → ℕ → Result RingPlace Unfound
ring_at h count t row ring = ring_found t ring (sought_of h count t row)

abbrev pub area_found : List ℤ → Result RingPlace Unfound → Result ℤ AreaRefusal
area_found ps (Ok p) = answer_of (area_of ps p.from p.count)
area_found ps (Err e) = Err (row_refused e)

-- one ring, judged alone
unfoldable pub ring_area_at : Header → ℕ → Tables → ℕ → ℕ → Result ℤ AreaRefusal
ring_area_at h count t row ring = area_found t.points (ring_at h count t row ring)

abbrev pub net_found : Tables → Result Stand Unfound → Result ℤ AreaRefusal
net_found t (Ok d) = answer_of (net_area_of (left_at t d))
net_found t (Err e) = Err (row_refused e)

unfoldable pub net_area_at : Header → ℕ → Tables → ℕ → Result ℤ AreaRefusal
net_area_at h count t row = net_found t (sought_of h count t row)

-- ---- the paper's number and values; 17 and 19 return no row

abbrev pub found_number : Result RingPlace Unfound → ℕ
found_number (Ok p) = 0
found_number (Err Unfound.Missing) = no_such
found_number (Err (Unfound.Refused f)) = Rattle.made.specs.Made.number_of (Err f)

abbrev pub found_row : Result RingPlace Unfound → ℕ
found_row (Ok p) = 0
found_row (Err Unfound.Missing) = 0
found_row (Err (Unfound.Refused f)) = Rattle.made.specs.Made.row_of (Err f)

abbrev pub number_of : Result ℤ AreaRefusal → ℕ
number_of (Ok d) = 0
number_of (Err Wide) = too_wide
number_of (Err Missing) = no_such
number_of (Err (Refused f)) = Rattle.made.specs.Made.number_of (Err f)

abbrev pub row_of : Result ℤ AreaRefusal → ℕ
row_of (Ok d) = 0
row_of (Err Wide) = 0
row_of (Err Missing) = 0
row_of (Err (Refused f)) = Rattle.made.specs.Made.row_of (Err f)
