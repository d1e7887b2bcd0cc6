-- A border of a sheet taken into a running tally, and the tally of a whole sheet: document 01, "Areas": "Borders go in row order, 17 before 18,
-- the refusal naming the row". Assumes nothing: these are definitions.
use Rattle.std.specs.Prelude.{ℕ, zero, suc, ◌+◌, ◌≡◌, List, Bool, cond, ℤ, Result, Ok, Err}
use Rattle.std.specs.Result.{is_ok}
use Rattle.record.specs.declared.Mode.TheVariants.{Loose}
use Rattle.record.specs.Refusals.{too_wide, past_limit, no_such}
use Rattle.kinds.specs.Kinds.{vertices_place}
use Rattle.heading.specs.declared.Header.{Header}
use Rattle.sheet.specs.Tables.{Tables}
use Rattle.made.specs.declared.Fault.{Fault}
use Rattle.made.specs.declared.Flaw.{Flaw}
use Rattle.made.specs.Made.{count_at, islands_of, rest_of, judge_of}
use Rattle.row.specs.declared.Stand.{Stand}
use Rattle.row.specs.declared.Unfound.{Unfound}
use Rattle.row.specs.declared.Unfound.TheVariants as Unfound
use Rattle.row.specs.Walk.{left_at}
use Rattle.row.specs.Seek.{sought_of}
use Rattle.border.specs.Borders.{is_border, border_of}
use Rattle.plane.specs.declared.NoArea.{NoArea}
use Rattle.plane.specs.declared.NoArea.TheVariants as NoArea
use Rattle.area.specs.declared.Areas.{Areas}
use Rattle.area.specs.BorderRings.{areas_of}
use Rattle.tally.specs.declared.Tally.{Tally}
use Rattle.tally.specs.declared.Untallied.{Untallied}
use Rattle.tally.specs.declared.Untallied.TheVariants.{Sheet, Missing, Full, Wide}
use Rattle.tally.specs.declared.Taken.{Taken}
use Rattle.tally.specs.Tally.{Added, empty_tally, is_tally, Good, tally_on, add_of}

abbrev pub taken_with : Tally → Result Unit Untallied → Taken
taken_with a r = record { tally = a; outcome = r }

-- ---- the first row of what is left, which is row k of the sheet

abbrev pub borders_areas : Tables → Result Areas NoArea
borders_areas t = areas_of (count_at t vertices_place) (islands_of t) t.points

-- 18 is "judged after the whole border"
abbrev pub after_added : ℕ → Added → Taken
after_added k a = taken_with a.tally (cond a.fits (Ok tt) (Err (Full k)))

-- "17 before 18"; a well made border has its rings
abbrev pub after_areas : Header → ℕ → Tables → Tally → Result Areas NoArea → Taken
after_areas h k t a (Ok r) = after_added k (add_of a (border_of h t) r.outer r.inner)
after_areas h k t a (Err NoArea.Wide) = taken_with a (Err (Wide k))
after_areas h k t a (Err NoArea.Missing) = taken_with a (Err Missing)

unfoldable pub border_taken : Header → ℕ → Tables → Tally → Taken
border_taken h k t a = after_areas h k t a (borders_areas t)

-- what is answered, where the figures are altered in place
pub record Took (x : Taken) (figures : List ℤ) (r : Result Unit Untallied) : Type 0 where
  pub tally-is : tally_on figures ≡ x.tally
  pub refusal_is : r ≡ x.outcome
  pub good : Good figures

-- any other row alters nothing
unfoldable pub row_taken : Header → ℕ → Tables → Tally → Taken
row_taken h k t a = cond (is_border t) (border_taken h k t a) (taken_with a (Ok tt))

-- ---- a running tally takes row k: 6, 15, 19, then 18 for the tally handed in, then 17, then 18. Refused, it is as it was handed in

abbrev pub front_taken : Header → ℕ → Tables → Tally → Taken
front_taken h k t a = cond (is_border t) (cond (is_tally a.figures) (border_taken h k t a) (taken_with a (Err (Full k)))) (taken_with a (Err Missing))

-- what a row that is not found is refused as
abbrev pub unfound_as : Unfound → Untallied
unfound_as Unfound.Missing = Missing
unfound_as (Unfound.Refused f) = Sheet f

abbrev pub taken_at : Header → Tables → ℕ → Tally → Result Stand Unfound → Taken
taken_at h t k a (Ok d) = front_taken h k (left_at t d) a
taken_at h t k a (Err e) = taken_with a (Err (unfound_as e))

unfoldable pub taken_of : Tally → Header → ℕ → Tables → ℕ → Taken
taken_of a h count t k = taken_at h t k a (sought_of h count t k)

-- ---- the tally of a sheet: 6, 15, then the rows in order. Refused, it is all 0

abbrev pub then_take : Taken → (Tally → Taken) → Taken
then_take x f = cond (is_ok x.outcome) (f x.tally) (taken_with empty_tally x.outcome)

unfoldable pub tally_rows : Header → ℕ → ℕ → Tables → Tally → Taken
tally_rows h zero k t a = taken_with a (Ok tt)
tally_rows h (suc n) k t a = then_take (row_taken h k t a) (tally_rows h n (k + 1) (rest_of t))

abbrev pub tallied_after : Header → ℕ → Tables → Result Unit Flaw → Taken
tallied_after h count t (Ok u) = tally_rows h count 0 t empty_tally
tallied_after h count t (Err f) = taken_with empty_tally (Err (Sheet f))

unfoldable pub tally_of : Header → ℕ → Tables → Taken
tally_of h count t = tallied_after h count t (judge_of Loose h count t)

-- ---- the paper's number and values

abbrev pub number_of : Result Unit Untallied → ℕ
number_of (Ok u) = 0
number_of (Err (Sheet f)) = Rattle.made.specs.Made.number_of (Err f)
number_of (Err Missing) = no_such
number_of (Err (Full k)) = past_limit
number_of (Err (Wide k)) = too_wide

abbrev pub row_of : Result Unit Untallied → ℕ
row_of (Ok u) = 0
row_of (Err (Sheet f)) = Rattle.made.specs.Made.row_of (Err f)
row_of (Err Missing) = 0
row_of (Err (Full k)) = k
row_of (Err (Wide k)) = k

-- 17 and 18 name the row
abbrev pub refused_of : Result Unit Untallied → Fault
refused_of r = record { number = number_of r; row = row_of r }
