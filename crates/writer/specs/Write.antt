-- What the writer answers: document 01, "Refusal numbers". Header (6), rows in order, each 15 then 10, length 1, room 14 with the
-- needed length. Assumes nothing: these are definitions.
use Rattle.std.specs.Prelude.{ℕ, List, cond, length, leb, Result, Ok, Err}
use Rattle.laws.specs.Lists.{over}
use Rattle.record.specs.declared.Mode.TheVariants.{Exact}
use Rattle.record.specs.Refusals.{too_long, no_room, file_most}
use Rattle.heading.specs.declared.Header.{Header}
use Rattle.sheet.specs.Tables.{Tables}
use Rattle.made.specs.declared.Flaw.{Flaw}
use Rattle.made.specs.Made.{judge_of}
use Rattle.layout.specs.Sheet.{sheet_text}
use Rattle.writer.specs.declared.Unwritten.{Unwritten}
use Rattle.writer.specs.declared.Unwritten.TheVariants.{TooLong, NoRoom, Refused}

abbrev pub written_after : Result Unit Flaw → ℕ → ℕ → Result ℕ Unwritten
written_after (Ok u) size room = cond (leb size file_most) (cond (leb size room) (Ok size) (Err (NoRoom size))) (Err TooLong)
written_after (Err f) size room = Err (Refused f)

-- the answer, for an output of `room` bytes
unfoldable pub write_of : Header → ℕ → Tables → ℕ → Result ℕ Unwritten
write_of h count t room = written_after (judge_of Exact h count t) (length (sheet_text h count t)) room

-- the output at exit: the text from its start and the rest as it was; a refusal alters nothing
abbrev pub output_of : Result ℕ Unwritten → List ℕ → List ℕ → List ℕ
output_of (Ok n) s l = over s l
output_of (Err e) s l = l

-- ---- the paper's number and values

abbrev pub number_of : Result ℕ Unwritten → ℕ
number_of (Ok n) = 0
number_of (Err TooLong) = too_long
number_of (Err (NoRoom n)) = no_room
number_of (Err (Refused f)) = Rattle.made.specs.Made.number_of (Err f)

-- with 15 and 10 the row from 0
abbrev pub row_of : Result ℕ Unwritten → ℕ
row_of (Ok n) = 0
row_of (Err TooLong) = 0
row_of (Err (NoRoom n)) = 0
row_of (Err (Refused f)) = Rattle.made.specs.Made.row_of (Err f)

-- the length that was written, or is needed with 14
abbrev pub length_of : Result ℕ Unwritten → ℕ
length_of (Ok n) = n
length_of (Err TooLong) = 0
length_of (Err (NoRoom n)) = n
length_of (Err (Refused f)) = 0
