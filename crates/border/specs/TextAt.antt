-- What a row of a sheet that is handed in says as a text: document 01, "Border classes". Assumes nothing: these are definitions.
use Rattle.std.specs.Prelude.{ℕ, Result, Ok, Err}
use Rattle.record.specs.Refusals.{no_such}
use Rattle.heading.specs.declared.Header.{Header}
use Rattle.sheet.specs.Tables.{Tables}
use Rattle.row.specs.declared.Stand.{Stand}
use Rattle.row.specs.declared.Unfound.{Unfound}
use Rattle.row.specs.declared.Unfound.TheVariants.{Missing, Refused}
use Rattle.row.specs.Walk.{left_at}
use Rattle.row.specs.Seek.{sought_of}
use Rattle.border.specs.Borders.{text_of}
use Rattle.border.specs.declared.Text.{Text}

-- any row answers; a missing row is refused
abbrev pub text_found : Tables → Result Stand Unfound → Result Text Unfound
text_found t (Ok d) = Ok (text_of (left_at t d))
text_found t (Err e) = Err e

unfoldable pub text_at : Header → ℕ → Tables → ℕ → Result Text Unfound
text_at h count t k = text_found t (sought_of h count t k)

-- ---- the paper's number and values

abbrev pub number_of : Result Text Unfound → ℕ
number_of (Ok x) = 0
number_of (Err Missing) = no_such
number_of (Err (Refused f)) = Rattle.made.specs.Made.number_of (Err f)

abbrev pub row_of : Result Text Unfound → ℕ
row_of (Ok x) = 0
row_of (Err Missing) = 0
row_of (Err (Refused f)) = Rattle.made.specs.Made.row_of (Err f)
