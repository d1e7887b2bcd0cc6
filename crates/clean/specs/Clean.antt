-- A clean file, what reading in loose mode and writing give: document 02, T-13. Assumes nothing: these are definitions.
use Rattle.std.specs.Prelude.{ℕ, zero, suc, List, Bool, true, ◌&&◌, length, take, Result, Ok, Err}
use Rattle.record.specs.declared.Mode.TheVariants.{Loose, Exact}
use Rattle.record.specs.declared.refusal.Refusal.{Refusal}
use Rattle.kinds.specs.Kinds.{code_place}
use Rattle.heading.specs.declared.Header.{Header}
use Rattle.sheet.specs.Tables.{Tables, row_count}
use Rattle.sheet.specs.Reading.{Reading, sheet, refused, reading}
use Rattle.made.specs.Made.{kind_of, count_at, rest_of, is_coded}
use Rattle.layout.specs.Sheet.{sheet_text}
use Rattle.reader.specs.Read.{header_of, counts_of}
use Rattle.reader.specs.Exit.{answer_to, exit_of}
use Rattle.writer.specs.declared.Unwritten.{Unwritten}
use Rattle.writer.specs.Write.{write_of, output_of, length_of}

-- ---- over bytes

-- the text of a sheet that was read
abbrev pub text_of : Header → Tables → List ℕ
text_of h o = sheet_text h (row_count o) o

-- the clean file; or the reading's refusal, which, its record and offset; or the writer's
pub data Cleaning : Type 0 where
  clean : List ℕ → Cleaning
  unread : Refusal → ℕ → ℕ → Cleaning
  unwritten : Unwritten → Cleaning

abbrev pub as_written : Result ℕ Unwritten → List ℕ → Cleaning
as_written (Ok n) s = clean s
as_written (Err e) s = unwritten e

-- a sheet that was read is written where it needs no more room than its text has
abbrev pub as_read : Reading → Cleaning
as_read (sheet h o) = as_written (write_of h (row_count o) o (length (text_of h o))) (text_of h o)
as_read (refused refusal nth offset) = unread refusal nth offset

-- what reading in loose mode and then writing gives
unfoldable pub clean_of : List ℕ → Cleaning
clean_of bs = as_read (reading Loose bs)

-- "only listed codes": of n rows, each that has a code has a listed one
unfoldable pub are_listed : ℕ → Tables → Bool
are_listed zero t = true
are_listed (suc n) t = is_coded Exact (kind_of t) (count_at t code_place) && are_listed n (rest_of t)

-- ---- by the library's functions: `read_as` in loose mode into the tables t, then `write` of what it answered and left into `out`. Each definition is
-- put together from the terms of their contracts

-- what `write` answers, and its output at exit
unfoldable pub written_of : List ℕ → Tables → List ℕ → Result ℕ Unwritten
written_of bs t out = write_of (header_of (answer_to Loose bs t)) (counts_of (answer_to Loose bs t)).rows (exit_of Loose bs t) (length out)

unfoldable pub left_of : List ℕ → Tables → List ℕ → List ℕ
left_of bs t out =
    output_of (written_of bs t out) (sheet_text (header_of (answer_to Loose bs t)) (counts_of (answer_to Loose bs t)).rows (exit_of Loose bs t)) out

-- the bytes that were written
unfoldable pub bytes_of : List ℕ → Tables → List ℕ → List ℕ
bytes_of bs t out = take (length_of (written_of bs t out)) (left_of bs t out)
