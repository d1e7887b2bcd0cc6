-- The ring check of a ring of a sheet that is handed in (document 01, "Ring check"): the header (6), then 15, then 19, then 17, then the
-- search. Assumes nothing: these are definitions.
use Rattle.std.specs.Prelude.{ℕ, List, ℤ, Option, Result, Ok, Err}
use Rattle.record.specs.Refusals.{too_wide, no_such}
use Rattle.heading.specs.declared.Header.{Header}
use Rattle.sheet.specs.Tables.{Tables}
use Rattle.plane.specs.declared.NoArea.{NoArea}
use Rattle.row.specs.declared.Unfound.{Unfound}
use Rattle.crossing.specs.declared.FaultyPair.{FaultyPair}
use Rattle.crossing.specs.Search.{verdict_of}
use Rattle.area.specs.declared.RingPlace.{RingPlace}
use Rattle.area.specs.declared.AreaRefusal.{AreaRefusal}
use Rattle.area.specs.declared.AreaRefusal.TheVariants.{Wide, Missing, Refused}
use Rattle.area.specs.Questions.{ring_refused, row_refused, ring_at}

abbrev pub checked_of : Result (Option FaultyPair) NoArea → Result (Option FaultyPair) AreaRefusal
checked_of (Ok pair) = Ok pair
checked_of (Err e) = Err (ring_refused e)

abbrev pub check_found : List ℤ → Result RingPlace Unfound → Result (Option FaultyPair) AreaRefusal
check_found ps (Ok p) = checked_of (verdict_of ps p.from p.count)
check_found ps (Err e) = Err (row_refused e)

-- ring 0 is the outer one, ring i island i
unfoldable pub ring_check_at : Header → ℕ → Tables → ℕ → ℕ → Result (Option FaultyPair) AreaRefusal
ring_check_at h count t row ring = check_found t.points (ring_at h count t row ring)

-- ---- the paper's number and values; 17 and 19 return no row

abbrev pub number_of : Result (Option FaultyPair) AreaRefusal → ℕ
number_of (Ok pair) = 0
number_of (Err Wide) = too_wide
number_of (Err Missing) = no_such
number_of (Err (Refused f)) = Rattle.made.specs.Made.number_of (Err f)

abbrev pub row_of : Result (Option FaultyPair) AreaRefusal → ℕ
row_of (Ok pair) = 0
row_of (Err Wide) = 0
row_of (Err Missing) = 0
row_of (Err (Refused f)) = Rattle.made.specs.Made.row_of (Err f)
