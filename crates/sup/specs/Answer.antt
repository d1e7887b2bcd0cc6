-- What `sup_text` answers: document 02, T-01, "Refusals: after 6, 15 and the tally's own, 21 bad date, 22 listed code over 11 letters (with the
-- first such row), 18 where a combined total passes that limit either side of zero, 23 figure over 10 characters (with the first such line,
-- from 1), then 14 with the needed length". Assumes nothing: these are definitions.
use Rattle.std.specs.Prelude.{ℕ, List, [], ◌∷◌, cond, length, leb, eqb, ℤ, Option, Some, None, Result, Ok, Err}
use Rattle.laws.specs.Lists.{over}
use Rattle.record.specs.Refusals.{no_room, past_limit, bad_date, long_code, wide_figure}
use Rattle.heading.specs.declared.Header.{Header}
use Rattle.sheet.specs.Tables.{Tables}
use Rattle.made.specs.Made.{letters_of}
use Rattle.row.specs.declared.Stand.{Stand}
use Rattle.row.specs.Walk.{left_at}
use Rattle.tally.specs.declared.Untallied.{Untallied}
use Rattle.tally.specs.Take.{tally_of, number_of, row_of}
use Rattle.order.specs.SupBorders.{first_long}
use Rattle.order.specs.SupOrder.{net_left, sup_in_order}
use Rattle.sup.specs.declared.NoSup.{NoSup}
use Rattle.sup.specs.declared.NoSup.TheVariants.{NoRoom, Refused, BadDate, CodeTooLong, PastTotal, WideFigure}
use Rattle.sup.specs.Date.{is_date}
use Rattle.sup.specs.Sup.{CodeNet, exact_total, is_limited, first_wide, sup_text}

-- the length that was written, or why nothing was
abbrev pub SupAnswer : Type 0
SupAnswer = Result ℕ NoSup

-- ---- the borders that the file lists: code and exact net of each, where its row stands

unfoldable pub code_nets : Tables → List Stand → List CodeNet
code_nets t [] = []
code_nets t (d ∷ s) = record { code = letters_of (left_at t d); net = net_left (left_at t d) } ∷ code_nets t s

unfoldable pub codes_in_order : Header → ℕ → Tables → List CodeNet
codes_in_order h count t = code_nets t (sup_in_order h count t)

-- ---- the text of a sheet's SUP file: its figures are those of the sheet's tally

unfoldable pub sheet_sup : Header → ℕ → Tables → List ℕ → List ℕ
sheet_sup h count t date = sup_text h date (tally_of h count t).tally.figures (codes_in_order h count t)

-- ---- the refusals in their order

-- 14
unfoldable pub stored_sup : List ℕ → ℕ → SupAnswer
stored_sup s room = cond (leb (length s) room) (Ok (length s)) (Err (NoRoom (length s)))

-- 23
unfoldable pub lined_sup : Header → List ℕ → List ℤ → List CodeNet → ℕ → SupAnswer
lined_sup h date f s room = cond (eqb (first_wide h.kind f s) 0) (stored_sup (sup_text h date f s) room) (Err (WideFigure (first_wide h.kind f s)))

-- 18
unfoldable pub printed_sup : Header → List ℕ → List ℤ → List CodeNet → ℕ → SupAnswer
printed_sup h date f s room = cond (is_limited (exact_total h.kind f)) (lined_sup h date f s room) (Err PastTotal)

-- 22
abbrev pub after_codes : Option ℕ → SupAnswer → SupAnswer
after_codes None x = x
after_codes (Some k) x = Err (CodeTooLong k)

-- 21
unfoldable pub dated_sup : Header → ℕ → Tables → List ℕ → List ℤ → ℕ → SupAnswer
dated_sup h count t date f room = cond (is_date date) (after_codes (first_long h count t) (printed_sup h date f (codes_in_order h count t) room)) (Err BadDate)

-- 6, 15, 17, 18 of the tally
abbrev pub after_tally : Result Unit Untallied → SupAnswer → SupAnswer
after_tally (Ok u) x = x
after_tally (Err e) x = Err (Refused e)

unfoldable pub sup_of : Header → ℕ → Tables → List ℕ → ℕ → SupAnswer
sup_of h count t date room = after_tally (tally_of h count t).outcome (dated_sup h count t date (tally_of h count t).tally.figures room)

-- the output at exit: the text from its start and the rest as it was; refused, nothing is altered
abbrev pub sup_output : SupAnswer → List ℕ → List ℕ → List ℕ
sup_output (Ok n) s l = over s l
sup_output (Err e) s l = l

-- ---- the paper's number and values

abbrev pub sup_number : SupAnswer → ℕ
sup_number (Ok n) = 0
sup_number (Err (NoRoom n)) = no_room
sup_number (Err (Refused e)) = number_of (Err e)
sup_number (Err BadDate) = bad_date
sup_number (Err (CodeTooLong k)) = long_code
sup_number (Err PastTotal) = past_limit
sup_number (Err (WideFigure k)) = wide_figure

-- the row from 0 of 15, 17, 18 and 22; the combined total's 18 is the number alone
abbrev pub sup_row : SupAnswer → ℕ
sup_row (Ok n) = 0
sup_row (Err (NoRoom n)) = 0
sup_row (Err (Refused e)) = row_of (Err e)
sup_row (Err BadDate) = 0
sup_row (Err (CodeTooLong k)) = k
sup_row (Err PastTotal) = 0
sup_row (Err (WideFigure k)) = 0

-- the line from 1 of 23
abbrev pub sup_line : SupAnswer → ℕ
sup_line (Ok n) = 0
sup_line (Err (NoRoom n)) = 0
sup_line (Err (Refused e)) = 0
sup_line (Err BadDate) = 0
sup_line (Err (CodeTooLong k)) = 0
sup_line (Err PastTotal) = 0
sup_line (Err (WideFigure k)) = k

-- the length that was written, or is needed with 14
abbrev pub sup_length : SupAnswer → ℕ
sup_length (Ok n) = n
sup_length (Err (NoRoom n)) = n
sup_length (Err (Refused e)) = 0
sup_length (Err BadDate) = 0
sup_length (Err (CodeTooLong k)) = 0
sup_length (Err PastTotal) = 0
sup_length (Err (WideFigure k)) = 0
