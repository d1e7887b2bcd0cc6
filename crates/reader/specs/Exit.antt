-- The four lent tables as a whole, before a reading and after it: document 01, "Sheet tables". Assumes nothing: these are definitions.
-- They are the terms of `read_as`'s contract, put side by side.
use Rattle.std.specs.Prelude.{ℕ, ◌*◌, List, length, take}
use Rattle.record.specs.declared.Mode.{Mode}
use Rattle.kinds.specs.Kinds.{row_width}
use Rattle.sheet.specs.Tables.{Tables}
use Rattle.sheet.specs.Reading.{reading}
use Rattle.reader.specs.Read.{Answer, Rooms, rooms_of, read_of, tables_in, written}
use Rattle.reader.specs.declared.Needs.{Needs}

abbrev pub rooms_in : Tables → Rooms
rooms_in t = rooms_of (length t.rows) (length t.letters) (length t.islands) (length t.points)

-- the answer to a reading into the tables t
abbrev pub answer_to : Mode → List ℕ → Tables → Answer
answer_to mode bs t = read_of mode bs (rooms_in t)

-- the tables at exit, where o is what was read
abbrev pub at_exit : Answer → Tables → Tables → Tables
at_exit x o t =
    record { rows = written x o.rows t.rows; letters = written x o.letters t.letters; islands = written x o.islands t.islands; points = written x o.points t.points }

abbrev pub exit_of : Mode → List ℕ → Tables → Tables
exit_of mode bs t = at_exit (answer_to mode bs t) (tables_in (reading mode bs)) t

-- the used part of tables that hold more: 15 numbers a row, two a point
abbrev pub used_part : Needs → Tables → Tables
used_part a t = record { rows = take (row_width * a.rows) t.rows; letters = take a.letters t.letters; islands = take a.islands t.islands; points = take (2 * a.points) t.points }
