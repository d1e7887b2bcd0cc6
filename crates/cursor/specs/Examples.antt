-- A cursor over a file of one record and `EOF`, computed: document 01, "Records". Assumes nothing.
use Rattle.std.specs.Prelude.{ℕ, ◌≡◌, List, Bool, true, false, Result, Err}
use Rattle.std.proofs.Math.Path.{refl}
use Rattle.std.specs.Borrow.{Bor}
use Rattle.laws.specs.Lists.{run, all, same}
use Rattle.laws.specs.Text.{text}
use Rattle.record.specs.declared.Mode.{Mode}
use Rattle.record.specs.declared.Mode.TheVariants.{Loose, Exact}
use Rattle.record.specs.declared.Found.{Found}
use Rattle.record.specs.declared.refusal.Refusal.{Refusal}
use Rattle.record.specs.declared.refusal.Refusal.TheVariants.{Cut, LineEnd}
use Rattle.record.specs.Record.{ends_cr, content, content_is, line_is, line_of, found, record_at}
use Rattle.cursor.specs.declared.Cursor.{Cursor}
use Rattle.cursor.specs.Cursor.{at_start, handed, moved_on, step_at, nth_from, nth_record}

-- `nth_record` with every definition opened, so that it computes
unfoldable pub computed : List ℕ → Mode → ℕ → Bool → Result Found Refusal
unfolding nth_from record_at line_of line_is content_is content ends_cr run all same
computed s mode n due = nth_record s mode n due

abbrev file : List ℕ
file = text "AB\r\nEOF"

module _ (block : ℕ × ℕ) where
  -- the file, wherever it lies
  abbrev src : Bor (List ℕ)
  src = record { ref_ptr = block; now = file }

  abbrev start : Mode → Cursor
  start mode = at_start src mode

  -- it begins at the file's start; a record moves it past the line end, and the file and the mode stay
  first : (handed (start Exact) false ≡ found 0 2 4) × (moved_on (start Exact) false ≡ record { src = src; at = 4; mode = Exact })
  unfolding computed
  first = (refl, refl)

  -- the next record is handed out there: `EOF`, where a keyword is due
  next : (handed (moved_on (start Loose) false) true ≡ found 4 3 7) × (moved_on (moved_on (start Loose) false) true ≡ record { src = src; at = 7; mode = Loose })
  unfolding computed
  next = (refl, refl)

  -- a refusal does not move its place
  stays : (handed (moved_on (start Loose) false) false ≡ Err Cut) × (moved_on (moved_on (start Loose) false) false ≡ moved_on (start Loose) false)
      × (handed (moved_on (start Exact) false) true ≡ Err Cut) × (moved_on (moved_on (start Exact) false) true ≡ moved_on (start Exact) false)
  unfolding computed
  stays = (refl, refl, refl, refl)

-- the same at a place of the file
steps : (step_at file 0 Exact false ≡ record { found = found 0 2 4; at = 4 }) × (step_at file 4 Loose true ≡ record { found = found 4 3 7; at = 7 })
    × (step_at file 4 Loose false ≡ record { found = Err Cut; at = 4 }) × (step_at file 7 Loose true ≡ record { found = Err Cut; at = 7 })
unfolding computed
steps = (refl, refl, refl, refl)

-- records by their number from 0: only the one that is wanted may be a keyword, and a refusal on the way is the answer
numbered : (nth_record file Loose 0 false ≡ found 0 2 4) × (nth_record file Loose 1 true ≡ found 4 3 7) × (nth_record file Loose 1 false ≡ Err Cut) × (nth_record file Loose 2 true ≡ Err Cut)
    × (nth_record (text "A\nB\nC\n") Loose 2 false ≡ found 4 1 6) × (nth_record (text "A\nB\n") Exact 1 false ≡ Err LineEnd)
unfolding computed
numbered = (refl, refl, refl, refl, refl, refl)
