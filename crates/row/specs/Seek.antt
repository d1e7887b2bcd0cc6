-- A row of a sheet that is handed in: document 01, "Sheet questions check the header (6), then 15, then 19, before their other
-- refusals". Assumes nothing: these are definitions.
use Rattle.std.specs.Prelude.{ℕ, cond, nat_lt, Result, Ok, Err}
use Rattle.record.specs.declared.Mode.TheVariants.{Loose}
use Rattle.record.specs.Refusals.{no_such}
use Rattle.heading.specs.declared.Header.{Header}
use Rattle.sheet.specs.Tables.{Tables}
use Rattle.made.specs.Made.{judge_of}
use Rattle.made.specs.declared.Flaw.{Flaw}
use Rattle.row.specs.declared.Stand.{Stand}
use Rattle.row.specs.declared.Unfound.{Unfound}
use Rattle.row.specs.declared.Unfound.TheVariants.{Missing, Refused}
use Rattle.row.specs.Walk.{stand_of}

abbrev pub sought_after : Result Unit Flaw → ℕ → Tables → ℕ → Result Stand Unfound
sought_after (Ok u) count t k = cond (nat_lt k count) (Ok (stand_of k t.rows)) (Err Missing)
sought_after (Err f) count t k = Err (Refused f)

-- where row k stands; any code is well made
unfoldable pub sought_of : Header → ℕ → Tables → ℕ → Result Stand Unfound
sought_of h count t k = sought_after (judge_of Loose h count t) count t k

-- ---- the paper's number and values

abbrev pub number_of : Result Stand Unfound → ℕ
number_of (Ok d) = 0
number_of (Err Missing) = no_such
number_of (Err (Refused f)) = Rattle.made.specs.Made.number_of (Err f)

abbrev pub row_of : Result Stand Unfound → ℕ
row_of (Ok d) = 0
row_of (Err Missing) = 0
row_of (Err (Refused f)) = Rattle.made.specs.Made.row_of (Err f)
