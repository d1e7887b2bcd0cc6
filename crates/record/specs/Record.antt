-- The record at a place of a file: document 01, "Records", the checks in its order; the modes, with document 02, T-09. Assumes nothing: these are definitions.
use Rattle.std.specs.Prelude.{ℕ, ◌+◌, ◌-◌, List, Bool, true, false, cond, not, ◌&&◌, ◌||◌, length, get_or, take, drop, ltb, leb, eqb, Result, Ok, Err}
use Rattle.laws.specs.Lists.{run, all, same}
use Rattle.laws.specs.Text.{text}
use Rattle.record.specs.Refusals.{file_most, record_most}
use Rattle.record.specs.Refusals as Refusals
use Rattle.record.specs.declared.refusal.Refusal.{Refusal}
use Rattle.record.specs.declared.Mode.{Mode}
use Rattle.record.specs.declared.Mode.TheVariants.{Loose, Exact, Former}
use Rattle.record.specs.declared.Line.{Line}
use Rattle.record.specs.declared.Found.{Found}

-- exact mode takes the printed layout alone; the former reading is as loose as loose mode, but for what may stand behind a number
abbrev pub is_exact : Mode → Bool
is_exact Loose = false
is_exact Exact = true
is_exact Former = false

abbrev pub is_former : Mode → Bool
is_former Loose = false
is_former Exact = false
is_former Former = true

-- what the first takes, the second takes as the same: exact within loose within former
abbrev pub widens : Mode → Mode → Bool
widens Exact mode = true
widens Loose Exact = false
widens Loose Loose = true
widens Loose Former = true
widens Former Exact = false
widens Former Loose = false
widens Former Former = true

-- a byte that a record's content may hold: 32 to 126
abbrev pub plain : ℕ → Bool
plain b = leb 32 b && leb b 126

abbrev pub not_lf : ℕ → Bool
not_lf b = not (eqb b 10)

abbrev pub word_eof : List ℕ
word_eof = text "EOF"

-- the bytes before an LF end in a CR
unfoldable pub ends_cr : List ℕ → Bool
ends_cr line = eqb (get_or line (length line - 1) 0) 13

-- a CR directly before the LF belongs to the line end
unfoldable pub content : List ℕ → List ℕ
content line = cond (ends_cr line) (take (length line - 1) line) line

-- a content of `len` bytes, `width` with its line end; the same in a file, and the place past its line end
abbrev pub got : ℕ → ℕ → Result Line Refusal
got len width = Ok (record { len = len; width = width })

abbrev pub found : ℕ → ℕ → ℕ → Result Found Refusal
found start len next = Ok (record { start = start; len = len; next = next })

-- length (4), then byte (5)
unfoldable pub content_is : List ℕ → ℕ → Result Line Refusal
content_is body width =
    cond (leb (length body) record_most) (cond (all plain body) (got (length body) width) (Err Refusal.Byte)) (Err Refusal.Length)

-- missing CR in exact mode (3)
unfoldable pub line_is : Mode → List ℕ → Result Line Refusal
line_is mode line = cond (ends_cr line || not (is_exact mode)) (content_is (content line) (length line + 1)) (Err Refusal.LineEnd)

-- the record at the front of `bs`. It runs to the next LF; no LF found is 2, but in a mode that is not exact,
-- where a keyword is due and the bytes left are exactly `EOF`, that is the EOF record
unfoldable pub line_of : Mode → Bool → List ℕ → Result Line Refusal
line_of mode due bs =
    cond (ltb (run not_lf bs) (length bs))
    (line_is mode (take (run not_lf bs) bs))
    (cond (not (is_exact mode) && due && same bs word_eof) (got 3 3) (Err Refusal.Cut))

abbrev pub placed : ℕ → Result Line Refusal → Result Found Refusal
placed at (Ok line) = found at line.len (at + line.width)
placed at (Err refusal) = Err refusal

-- the record at a place of a file: 1 before all
unfoldable pub record_at : List ℕ → ℕ → Mode → Bool → Result Found Refusal
record_at s at mode due = cond (leb (length s) file_most) (placed at (line_of mode due (drop at s))) (Err Refusal.TooLong)

-- ---- the paper's number: a record that is found has none

abbrev pub number_of : Result Found Refusal → ℕ
number_of (Ok found) = 0
number_of (Err refusal) = Refusals.number_of refusal
