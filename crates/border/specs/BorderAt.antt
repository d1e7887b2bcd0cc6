-- The border of a row of a sheet that is handed in: document 01, "Border classes". Assumes nothing: these are definitions.
use Rattle.std.specs.Prelude.{ℕ, cond, Result, Ok, Err}
use Rattle.record.specs.Refusals.{no_such}
use Rattle.heading.specs.declared.Header.{Header}
use Rattle.sheet.specs.Tables.{Tables}
use Rattle.row.specs.declared.Stand.{Stand}
use Rattle.row.specs.declared.Unfound.{Unfound}
use Rattle.row.specs.declared.Unfound.TheVariants.{Missing, Refused}
use Rattle.row.specs.Walk.{left_at}
use Rattle.row.specs.Seek.{sought_of}
use Rattle.border.specs.Borders.{is_border, border_of}
use Rattle.border.specs.declared.Border.{Border}

-- a row that is no border is refused as a missing one
abbrev pub border_found : Header → Tables → Result Stand Unfound → Result Border Unfound
border_found h t (Ok d) = cond (is_border (left_at t d)) (Ok (border_of h (left_at t d))) (Err Missing)
border_found h t (Err e) = Err e

unfoldable pub border_at : Header → ℕ → Tables → ℕ → Result Border Unfound
border_at h count t k = border_found h t (sought_of h count t k)

-- ---- the paper's number and values

abbrev pub number_of : Result Border Unfound → ℕ
number_of (Ok b) = 0
number_of (Err Missing) = no_such
number_of (Err (Refused f)) = Rattle.made.specs.Made.number_of (Err f)

abbrev pub row_of : Result Border Unfound → ℕ
row_of (Ok b) = 0
row_of (Err Missing) = 0
row_of (Err (Refused f)) = Rattle.made.specs.Made.row_of (Err f)
