-- A reading into lent tables: document 01, "Sheet tables". The whole file is judged, then the room (14), then the tables
-- are written; past the used part nothing is altered, and a refusal alters nothing. Assumes nothing: these are definitions.
use Rattle.std.specs.Prelude.{ℕ, ◌/◌, List, Result, Ok, Err, Bool, cond, ◌&&◌, length, leb}
use Rattle.laws.specs.Lists.{over}
use Rattle.record.specs.declared.Mode.{Mode}
use Rattle.record.specs.declared.refusal.Refusal.{Refusal}
use Rattle.record.specs.Refusals as Refusals
use Rattle.heading.specs.declared.Header.{Header}
use Rattle.heading.specs.Heading.{no_header}
use Rattle.kinds.specs.Kinds.{row_width}
use Rattle.sheet.specs.Tables.{Tables, empty}
use Rattle.sheet.specs.Reading.{Sections, read, stop, Reading, sheet, refused, reading}
use Rattle.header.specs.declared.Stopped.{Stopped}
use Rattle.reader.specs.Columns.{reading_column}
use Rattle.reader.specs.declared.Needs.{Needs}
use Rattle.reader.specs.declared.Reading as Declared
use Rattle.reader.specs.declared.Unread.{Unread}
use Rattle.reader.specs.declared.Unread.TheVariants as Unread

-- the answer to a reading
abbrev pub Answer : Type 0
Answer = Result Declared.Reading Unread

-- the rows, letters, island counts and points (pairs) of a sheet
abbrev pub needs_of : Tables → Needs
needs_of o = record { rows = length o.rows / row_width; letters = length o.letters; islands = length o.islands; points = length o.points / 2 }

-- where a refusal stands
abbrev pub stopped_at : Refusal → ℕ → ℕ → Stopped
stopped_at m k at = record { refusal = m; «record» = k; offset = at }

abbrev pub judged_of : ℕ → Sections → Result Needs Unread
judged_of column (read o eof) = Ok (needs_of o)
judged_of column (stop m k at) = Err (Unread.Refused (stopped_at m k at) column)

-- the lengths of the four tables that are lent
pub record Rooms : Type 0 where
  pub rows : ℕ
  pub letters : ℕ
  pub islands : ℕ
  pub points : ℕ

abbrev pub rooms_of : ℕ → ℕ → ℕ → ℕ → Rooms
rooms_of rows letters islands points = record { rows = rows; letters = letters; islands = islands; points = points }

-- every table is long enough: 15 numbers a row, two a point
unfoldable pub holds_all : Needs → Rooms → Bool
holds_all a r = leb a.rows (r.rows / row_width) && leb a.letters r.letters && leb a.islands r.islands && leb a.points (r.points / 2)

-- header values stand beside the needs where the sheet is read, and the column where it is refused
abbrev pub read_with : Needs → Header → Answer
read_with needs h = Ok (record { header = h; needs = needs })

abbrev pub refused_with : Unread → Answer
refused_with u = Err u

abbrev pub refused_in : ℕ → Stopped → Answer
refused_in column s = refused_with (Unread.Refused s column)

abbrev pub answered : ℕ → Reading → Rooms → Answer
answered column (refused m k at) r = refused_in column (stopped_at m k at)
answered column (sheet h o) r = cond (holds_all (needs_of o) r) (read_with (needs_of o) h) (refused_with (Unread.NoRoom (needs_of o)))

-- the answer to a reading
unfoldable pub read_of : Mode → List ℕ → Rooms → Answer
read_of mode bs r = answered (reading_column mode bs) (reading mode bs) r

-- the tables of a file that is read
abbrev pub tables_in : Reading → Tables
tables_in (sheet h o) = o
tables_in (refused m k at) = empty

-- a table at exit, where xs is what it is to hold and l what it held
abbrev pub written {ℓ} : {A : Type ℓ} → Answer → List A → List A → List A
written (Ok a) xs l = over xs l
written (Err u) xs l = l

-- ---- the paper's number and values for each case

abbrev pub number_of : Answer → ℕ
number_of (Ok a) = 0
number_of (Err (Unread.NoRoom a)) = Refusals.no_room
number_of (Err (Unread.Refused s column)) = Refusals.number_of s.refusal

-- 1 and 14 return 0 and 0
abbrev pub record_of : Answer → ℕ
record_of (Ok a) = 0
record_of (Err (Unread.NoRoom a)) = 0
record_of (Err (Unread.Refused s column)) = s.«record»

abbrev pub offset_of : Answer → ℕ
offset_of (Ok a) = 0
offset_of (Err (Unread.NoRoom a)) = 0
offset_of (Err (Unread.Refused s column)) = s.offset

-- 0 but where a number is malformed
abbrev pub column_of : Answer → ℕ
column_of (Ok a) = 0
column_of (Err (Unread.NoRoom a)) = 0
column_of (Err (Unread.Refused s column)) = column

-- an answer with no sheet has no header
abbrev pub header_of : Answer → Header
header_of (Ok a) = a.header
header_of (Err u) = no_header

-- what was used, or what is needed with 14
abbrev pub counts_of : Answer → Needs
counts_of (Ok a) = a.needs
counts_of (Err (Unread.NoRoom a)) = a
counts_of (Err (Unread.Refused s column)) = record { rows = 0; letters = 0; islands = 0; points = 0 }
