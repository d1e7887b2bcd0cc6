-- What altering a sheet answers, in the paper's numbers, and what the tables hold then (document 02, T-08). Assumes nothing: these are definitions.
use Rattle.std.specs.Prelude.{ℕ, Result, Ok, Err}
use Rattle.record.specs.Refusals.{no_such}
use Rattle.sheet.specs.Tables.{Tables}
use Rattle.row.specs.declared.Unfound.{Unfound}
use Rattle.row.specs.declared.Unfound.TheVariants as Unfound
use Rattle.edit.specs.declared.Unedited.{Unedited}
use Rattle.edit.specs.declared.Unedited.TheVariants.{Missing, MovedOff, Refused}

-- what a row that is not found is refused as
abbrev pub unfound_as : Unfound → Unedited
unfound_as Unfound.Missing = Missing
unfound_as (Unfound.Refused f) = Refused f

-- tables that held t: what an edit makes of them, or, where it is refused, what they held
abbrev pub tables_at : Result ℕ Unedited → Tables → Tables → Tables
tables_at (Ok n) u t = u
tables_at (Err e) u t = t

-- ---- the paper's number and values: the row with 15, the rows at exit where nothing is refused

abbrev pub moved_off : ℕ
moved_off = 24

abbrev pub number_of : Result ℕ Unedited → ℕ
number_of (Ok n) = 0
number_of (Err Missing) = no_such
number_of (Err MovedOff) = moved_off
number_of (Err (Refused f)) = Rattle.made.specs.Made.number_of (Err f)

abbrev pub row_of : Result ℕ Unedited → ℕ
row_of (Ok n) = 0
row_of (Err Missing) = 0
row_of (Err MovedOff) = 0
row_of (Err (Refused f)) = Rattle.made.specs.Made.row_of (Err f)

abbrev pub count_of : Result ℕ Unedited → ℕ
count_of (Ok n) = n
count_of (Err Missing) = 0
count_of (Err MovedOff) = 0
count_of (Err (Refused f)) = 0
