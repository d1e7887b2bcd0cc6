-- The record rules of document 01 by example, computed: the line end, the order of the refusals, the loose `EOF`. Assumes nothing.
use Prim.Native.Nat.{ℕ}
use mathlib.Core.Path.{◌≡◌, refl}
use mathlib.Core.List.{List, [], ◌∷◌, ◌++◌}
use mathlib.Core.Bool.{Bool, true, false}
use lib.ListN.{replicate}
use Rattle.std.specs.Prelude.{Result, Err}
use Rattle.laws.specs.Lists.{run, all, same}
use Rattle.record.specs.declared.refusal.Refusal.{Refusal}
use Rattle.record.specs.declared.Line.{Line}
use Rattle.record.specs.declared.Found.{Found}
use Rattle.record.specs.Refusals.{number_of}
use Rattle.record.specs.declared.Mode.{Mode}
use Rattle.record.specs.declared.Mode.TheVariants.{Loose, Exact, Former}
use Rattle.record.specs.Record.{word_eof, ends_cr, content, content_is, line_is, got, found, line_of, record_at}

-- `record_at` with every definition opened, so that it computes
unfoldable pub computed : List ℕ → ℕ → Mode → Bool → Result Found Refusal
unfolding record_at line_of line_is content content_is ends_cr run all same
computed s at mode due = record_at s at mode due

abbrev CRLF : List ℕ
CRLF = 13 ∷ 10 ∷ []

abbrev LF : List ℕ
LF = 10 ∷ []

abbrev exact : List ℕ → Result Line Refusal
exact = line_of Exact false

abbrev loose : List ℕ → Result Line Refusal
loose = line_of Loose false

-- each is faulty in all that the next ones are: no LF, no CR before it, 256 bytes, a byte below 32
pub order : (exact (replicate 300 1) ≡ Err Refusal.Cut) × (exact (replicate 256 1 ++ LF) ≡ Err Refusal.LineEnd) × (exact (replicate 256 1 ++ CRLF) ≡ Err Refusal.Length)
    × (exact (1 ∷ CRLF) ≡ Err Refusal.Byte) × (loose (replicate 256 1 ++ LF) ≡ Err Refusal.Length) × (loose (1 ∷ LF) ≡ Err Refusal.Byte)
unfolding computed
order = (refl, refl, refl, refl, refl, refl)

-- one CR before the LF belongs to the line end, another is a byte of the content; CR LF alone is an empty record
pub line-ends : (exact CRLF ≡ got 0 2) × (loose LF ≡ got 0 1) × (loose (65 ∷ CRLF) ≡ got 1 3) × (loose (65 ∷ LF) ≡ got 1 2)
    × (exact (65 ∷ LF) ≡ Err Refusal.LineEnd) × (exact (65 ∷ 13 ∷ CRLF) ≡ Err Refusal.Byte) × (loose (13 ∷ 65 ∷ LF) ≡ Err Refusal.Byte)
unfolding computed
line-ends = (refl, refl, refl, refl, refl, refl, refl)

-- neither CR nor LF counts for the length, a blank does
pub lengths : (exact (replicate 255 65 ++ CRLF) ≡ got 255 257) × (loose (replicate 255 65 ++ 32 ∷ LF) ≡ Err Refusal.Length)
unfolding computed
lengths = (refl, refl)

-- `EOF` without a line end: only in loose mode, only where a keyword is due, and nothing else beside it
pub bare-EOF : (line_of Loose true word_eof ≡ got 3 3) × (line_of Loose false word_eof ≡ Err Refusal.Cut) × (line_of Exact true word_eof ≡ Err Refusal.Cut)
    × (line_of Loose true (32 ∷ word_eof) ≡ Err Refusal.Cut) × (line_of Loose true (word_eof ++ 32 ∷ []) ≡ Err Refusal.Cut) × (line_of Loose true (word_eof ++ 13 ∷ []) ≡ Err Refusal.Cut)
unfolding computed
bare-EOF = (refl, refl, refl, refl, refl, refl)

-- the former reading finds the records that loose mode finds
pub former-records : (line_of Former true word_eof ≡ got 3 3) × (line_of Former false word_eof ≡ Err Refusal.Cut) × (line_of Former false (65 ∷ LF) ≡ got 1 2)
unfolding computed
former-records = (refl, refl, refl)

-- the empty file, and the place past a file's last record
pub ends : (record_at [] 0 Loose true ≡ Err Refusal.Cut) × (record_at (65 ∷ CRLF) 3 Exact true ≡ Err Refusal.Cut)
unfolding computed
ends = (refl, refl)

-- a content's bytes are 32 to 126
pub bytes : (loose (32 ∷ LF) ≡ got 1 2) × (loose (126 ∷ LF) ≡ got 1 2) × (loose (31 ∷ LF) ≡ Err Refusal.Byte) × (loose (127 ∷ LF) ≡ Err Refusal.Byte)
unfolding computed
bytes = (refl, refl, refl, refl)

-- a record inside a file: its place, its length without the line end, and the place behind the line end
pub places : (record_at (65 ∷ 66 ∷ CRLF ++ 67 ∷ LF) 0 Exact false ≡ found 0 2 4) × (record_at (65 ∷ 66 ∷ CRLF ++ 67 ∷ LF) 4 Loose false ≡ found 4 1 6)
    × (record_at (65 ∷ LF ++ word_eof) 2 Loose true ≡ found 2 3 5)
unfolding computed
places = (refl, refl, refl)

-- the papers' numbers: 16 is none of them
pub numbers : (number_of Refusal.TooLong ≡ 1) × (number_of Refusal.Cut ≡ 2) × (number_of Refusal.LineEnd ≡ 3) × (number_of Refusal.Length ≡ 4) × (number_of Refusal.Byte ≡ 5)
    × (number_of Refusal.Number ≡ 8) × (number_of Refusal.NoRoom ≡ 14) × (number_of Refusal.NotMade ≡ 15) × (number_of Refusal.TooWide ≡ 17) × (number_of Refusal.WideFigure ≡ 23)
numbers = (refl, refl, refl, refl, refl, refl, refl, refl, refl, refl)
