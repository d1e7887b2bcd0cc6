-- What `sup_check` answers: document 02, T-10, "accept exactly when ..  Refusals: the sheet's own as in T-01, then 25 with the first wrong line from 1,
-- one past the last if lines are missing; 22 and 23 don't apply". Assumes nothing: these are definitions.
use Rattle.std.specs.Prelude.{ℕ, suc, ◌+◌, ◌*◌, List, [], ◌∷◌, cond, ◌&&◌, length, eqb, ℤ, Result, Ok, Err}
use Rattle.record.specs.Refusals.{past_limit}
use Rattle.heading.specs.declared.Header.{Header}
use Rattle.sheet.specs.Tables.{Tables}
use Rattle.tally.specs.declared.Untallied.{Untallied}
use Rattle.tally.specs.Take.{tally_of, number_of, row_of}
use Rattle.sup.specs.Lines.{line_width}
use Rattle.sup.specs.Sup.{CodeNet, exact_total, is_limited}
use Rattle.sup.specs.Answer.{codes_in_order}
use Rattle.supcheck.specs.declared.Unaccepted.{Unaccepted}
use Rattle.supcheck.specs.declared.Unaccepted.TheVariants.{Refused, PastTotal, WrongLine}
use Rattle.supline.specs.Right.{DueLine, line_from, is_right_line, is_right_date}
use Rattle.supcheck.specs.Due.{due_lines}

-- ---- right lines at the beginning

-- of these lines, the first of which is due as line k of the file (from 0)
unfoldable pub right_from : ℕ → List DueLine → List ℕ → ℕ
right_from k [] s = 0
right_from k (x ∷ l) s = cond (is_right_line x (line_from s k)) (suc (right_from (k + 1) l s)) 0

-- of the file s: its date, then the lines of the tally `f` and the listed borders `c`
unfoldable pub right_lines : Header → List ℤ → List CodeNet → List ℕ → ℕ
right_lines h f c s = cond (is_right_date h.name s) (suc (right_from 1 (due_lines h.kind f c s) s)) 0

-- ---- the answer

-- accepted, or why not
abbrev pub SupChecked : Type 0
SupChecked = Result Unit Unaccepted

-- as many lines as T-01 writes: the date, thirteen figures, and one for each listed border
abbrev pub line_count : List CodeNet → ℕ
line_count c = 14 + length c

-- all lines are right and nothing stands behind the last; else the first wrong line, from 1
unfoldable pub checked_lines : Header → List ℤ → List CodeNet → List ℕ → SupChecked
checked_lines h f c s =
    cond (eqb (right_lines h f c s) (line_count c) && eqb (length s) (line_width * line_count c)) (Ok tt) (Err (WrongLine (right_lines h f c s + 1)))

-- 18 of the combined total, "before any look at the file"
unfoldable pub total_checked : Header → List ℤ → List CodeNet → List ℕ → SupChecked
total_checked h f c s = cond (is_limited (exact_total h.kind f)) (checked_lines h f c s) (Err PastTotal)

-- 6, 15, 17, 18 of the tally
abbrev pub after_tally : Result Unit Untallied → SupChecked → SupChecked
after_tally (Ok u) x = x
after_tally (Err e) x = Err (Refused e)

unfoldable pub sup_checked : Header → ℕ → Tables → List ℕ → SupChecked
sup_checked h count t s = after_tally (tally_of h count t).outcome (total_checked h (tally_of h count t).tally.figures (codes_in_order h count t) s)

-- ---- the paper's number and values

abbrev pub wrong_line : ℕ
wrong_line = 25

abbrev pub checked_number : SupChecked → ℕ
checked_number (Ok u) = 0
checked_number (Err (Refused e)) = number_of (Err e)
checked_number (Err PastTotal) = past_limit
checked_number (Err (WrongLine k)) = wrong_line

-- the row from 0 of 15, 17 and 18; the combined total's 18 is the number alone
abbrev pub checked_row : SupChecked → ℕ
checked_row (Ok u) = 0
checked_row (Err (Refused e)) = row_of (Err e)
checked_row (Err PastTotal) = 0
checked_row (Err (WrongLine k)) = 0

-- the line from 1 of 25
abbrev pub checked_line : SupChecked → ℕ
checked_line (Ok u) = 0
checked_line (Err (Refused e)) = 0
checked_line (Err PastTotal) = 0
checked_line (Err (WrongLine k)) = k
