-- The column of a reading's refusal: document 02, T-04. Assumes nothing: these are definitions.
-- What a file means (sheet/specs/Reading: `reading`) does not know of columns: they stand beside it.
use Rattle.std.specs.Prelude.{ℕ, zero, suc, List, Result, Ok, Err, cond, length, take, drop, leb}
use Rattle.record.specs.declared.Mode.{Mode}
use Rattle.record.specs.declared.refusal.Refusal.{Refusal}
use Rattle.record.specs.Refusals.{file_most, number_of}
use Rattle.token.specs.declared.Want.{Want}
use Rattle.token.specs.declared.Want.TheVariants.{Real}
use Rattle.column.specs.Columns.{refusal_column}
use Rattle.header.specs.declared.Headed.{Headed}
use Rattle.header.specs.declared.Stopped.{Stopped}
use Rattle.header.specs.Header.{headed}
use Rattle.machine.specs.Machine.{want_of, one_of}
use Rattle.machine.specs.declared.State.{State}
use Rattle.machine.specs.declared.State.TheVariants.{Due}
use Rattle.machine.specs.declared.One.{One}
use Rattle.sheet.specs.Tables.{Tables, empty, put, ring_after}
use Rattle.sheet.specs.Reading.{Sections, read, stop, walk_from}
use Rattle.reader.specs.declared.Unread.{Unread}
use Rattle.reader.specs.declared.Unread.TheVariants as Unread

-- what is due where the records stop: the steps of `walk` (sheet/specs/Reading), and no answer but the state
abbrev pub due_after : State → Tables → List ℕ → (State → Tables → List ℕ → State) → Result One Refusal → State
due_after st o bs more (Ok (One.Go st' t len width)) = more st' (put st t (take len bs) o) (drop width bs)
due_after st o bs more (Ok (One.End width)) = st
due_after st o bs more (Err m) = st

unfoldable pub due_at : ℕ → Mode → State → Tables → List ℕ → State
due_at zero mode st o bs = st
due_at (suc f) mode st o bs = due_after st o bs (λ st' o' bs'. due_at f mode st' o' bs') (one_of mode st (ring_after st o) bs)

-- in a file whose sections begin at `start`
unfoldable pub due_from : Mode → List ℕ → ℕ → State
due_from mode bs start = due_at (length bs) mode Due empty (drop start bs)

-- the column of what the sections answer: of the record that is refused, as what is due there
abbrev pub stop_column : Mode → List ℕ → State → Sections → ℕ
stop_column mode bs st (read o eof) = 0
stop_column mode bs st (stop m k at) = refusal_column mode (want_of st) (number_of m) (drop at bs)

unfoldable pub column_from : Mode → List ℕ → ℕ → ℕ
column_from mode bs start = stop_column mode bs (due_from mode bs start) (walk_from mode bs start)

-- a header has one number: the scale, a real
abbrev pub ahead_column : Mode → List ℕ → Result Headed Stopped → ℕ
ahead_column mode bs (Ok h) = column_from mode bs h.at
ahead_column mode bs (Err s) = refusal_column mode Real (number_of s.refusal) (drop s.offset bs)

-- the column of a reading: 0 where it is read, and where it is refused by another number than 8
unfoldable pub reading_column : Mode → List ℕ → ℕ
reading_column mode bs = cond (leb (length bs) file_most) (ahead_column mode bs (headed mode bs)) 0

-- a refusal beside its column, where its record was to be read as `want`
abbrev pub located_in : Mode → List ℕ → Want → Stopped → Unread
located_in mode bs want s = Unread.Refused s (refusal_column mode want (number_of s.refusal) (drop s.offset bs))
