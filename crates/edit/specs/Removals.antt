-- A sheet that a row is taken out of (document 02, T-08): "Removing row k closes up all four tables, keeps the order, keeps every start true and leaves
-- the freed tail as it was". Assumes nothing: these are definitions.
use Rattle.std.specs.Prelude.{ℕ, zero, suc, ◌-◌, ◌%◌, List, [], ◌∷◌, ℤ, pos, ◌-ℤ◌, Result, Ok, Err}
use Rattle.kinds.specs.Kinds.{row_width}
use Rattle.heading.specs.declared.Header.{Header}
use Rattle.sheet.specs.Tables.{Tables, ◌then◌, over_of, Starts, move_at}
use Rattle.made.specs.Made.{first_of, rest_of, counts_of, used_of}
use Rattle.row.specs.declared.Stand.{Stand}
use Rattle.row.specs.declared.Unfound.{Unfound}
use Rattle.row.specs.Seek.{sought_of}
use Rattle.edit.specs.declared.Unedited.{Unedited}
use Rattle.edit.specs.Answers.{unfound_as}

-- ---- starts that fall

-- the numbers of rows, the first of them at place p, counted on through the rows: the starts less so many letters, island counts and points
unfoldable pub fall_from : Starts → ℕ → List ℤ → List ℤ
fall_from s p [] = []
fall_from s p (z ∷ zs) = (z -ℤ pos (move_at s (p % row_width))) ∷ fall_from s (suc p) zs

-- elements that so many letters, island counts and points before them are taken away from
abbrev pub taken_back : Starts → Tables → Tables
taken_back s o = record { rows = fall_from s 0 o.rows; letters = o.letters; islands = o.islands; points = o.points }

-- ---- the sheet

-- the rows before row k as they are, those behind it with their starts less its counts
unfoldable pub without : ℕ → Tables → Tables
without zero t = taken_back (counts_of t) (rest_of t)
without (suc k) t = first_of t then without k (rest_of t)

-- of n rows: what the others use stands from the start of each table, and all behind it is as it was
abbrev pub removed_tables : ℕ → ℕ → Tables → Tables
removed_tables n k t = over_of (used_of (n - 1) (without k t)) t

-- the header (6), then 15, then 19
abbrev pub removed_after : ℕ → Result Stand Unfound → Result ℕ Unedited
removed_after n (Ok d) = Ok (n - 1)
removed_after n (Err e) = Err (unfound_as e)

unfoldable pub remove_of : Header → ℕ → Tables → ℕ → Result ℕ Unedited
remove_of h count t k = removed_after count (sought_of h count t k)
