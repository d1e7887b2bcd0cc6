-- A cursor at a file's start, what it hands out, and where it stands then. Assumes nothing: these are definitions.
use Rattle.std.specs.Prelude.{ℕ, zero, suc, List, Bool, false, Result, Ok, Err}
use Rattle.std.specs.Borrow.{Bor}
use Rattle.record.specs.declared.Mode.{Mode}
use Rattle.record.specs.declared.Found.{Found}
use Rattle.record.specs.declared.refusal.Refusal.{Refusal}
use Rattle.record.specs.Record.{record_at}
use Rattle.cursor.specs.declared.Cursor.{Cursor}
use Rattle.cursor.specs.declared.Served.{Served}

-- the place after an answer at a place: past the record, and the same where it is refused
abbrev pub place_after : Result Found Refusal → ℕ → ℕ
place_after (Ok found) at = found.next
place_after (Err refusal) at = at

abbrev pub at_start : Bor (List ℕ) → Mode → Cursor
at_start src mode = record { src = src; at = 0; mode = mode }

-- the answer to a request
abbrev pub handed : Cursor → Bool → Result Found Refusal
handed c due = record_at c.src.now c.at c.mode due

-- the cursor after it: the file and the mode stay
abbrev pub moved_on : Cursor → Bool → Cursor
moved_on c due = record { src = c.src; at = place_after (handed c due) c.at; mode = c.mode }

-- the answer and the place after it, at a place of a file
abbrev pub step_at : List ℕ → ℕ → Mode → Bool → Served
step_at s at mode due = record { found = record_at s at mode due; at = place_after (record_at s at mode due) at }

-- passes over a record that is found
abbrev pub passing : Result Found Refusal → (ℕ → Result Found Refusal) → Result Found Refusal
passing (Ok found) f = f found.next
passing (Err refusal) f = Err refusal

-- the record of a number from 0, from a place on: the ones before it are no keywords, and all found
unfoldable pub nth_from : List ℕ → Mode → Bool → ℕ → ℕ → Result Found Refusal
nth_from s mode due zero at = record_at s at mode due
nth_from s mode due (suc n) at = passing (record_at s at mode false) (nth_from s mode due n)

abbrev pub nth_record : List ℕ → Mode → ℕ → Bool → Result Found Refusal
nth_record s mode n due = nth_from s mode due n 0
