-- The borders of a sheet taken one by one into a running tally: document 01, "Areas": it "takes one border at a time", and "Borders go in row
-- order". Assumes nothing: these are definitions.
use Rattle.std.specs.Prelude.{ℕ, zero, suc, ◌+◌, Bool, cond, Ok}
use Rattle.std.specs.Result.{is_ok}
use Rattle.heading.specs.declared.Header.{Header}
use Rattle.sheet.specs.Tables.{Tables}
use Rattle.row.specs.Walk.{stand_of, left_at}
use Rattle.border.specs.Borders.{is_border}
use Rattle.tally.specs.declared.Tally.{Tally}
use Rattle.tally.specs.declared.Taken.{Taken}
use Rattle.tally.specs.Take.{taken_with, taken_of}

-- row k of the tables is a border
abbrev pub is_border_row : Tables → ℕ → Bool
is_border_row t k = is_border (left_at t (stand_of k t.rows))

-- on with the tally; a refusal stops it, with the tally as it then is
abbrev pub unless_refused : Taken → (Tally → Taken) → Taken
unless_refused x f = cond (is_ok x.outcome) (f x.tally) x

-- n rows from row k on, in order: a border is taken, a row that is none is passed over, the first refusal stops it
unfoldable pub taken_in_turn : Header → ℕ → Tables → ℕ → ℕ → Tally → Taken
taken_in_turn h count t zero k a = taken_with a (Ok tt)
taken_in_turn h count t (suc n) k a =
    cond (is_border_row t k) (unless_refused (taken_of a h count t k) (taken_in_turn h count t n (k + 1))) (taken_in_turn h count t n (k + 1) a)
