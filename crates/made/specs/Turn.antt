-- One row of `judge_rows`: its refusal, or how many letters, island counts and points it has. Assumes nothing: these are definitions.
use Rattle.std.specs.Prelude.{ℕ, cond, ◌&&◌, Result, Ok, Err}
use Rattle.record.specs.declared.Mode.{Mode}
use Rattle.kinds.specs.Kinds.{code_place, letters_place, islands_place, vertices_place}
use Rattle.sheet.specs.Tables.{Tables, Starts}
use Rattle.made.specs.Made.{kind_of, count_at, is_made, are_starts, starts_at, is_coded}
use Rattle.made.specs.declared.Counts.{Counts}
use Rattle.made.specs.declared.Flaw.{Flaw}
use Rattle.made.specs.declared.Flaw.TheVariants.{Faulty, Unlisted}

-- the code's counts as starts, and those of the first row
abbrev pub starts_of : Counts → Starts
starts_of c = starts_at c.letters c.islands c.points

abbrev pub own_counts : Tables → Counts
own_counts t = record { letters = count_at t letters_place; islands = count_at t islands_place; points = count_at t vertices_place }

unfoldable pub row_turn : Mode → ℕ → Counts → Tables → Result Counts Flaw
row_turn mode k before t =
    cond (is_made t && are_starts (starts_of before) t.rows) (cond (is_coded mode (kind_of t) (count_at t code_place)) (Ok (own_counts t)) (Err (Unlisted k))) (Err (Faulty k))
