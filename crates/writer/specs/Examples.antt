-- What the writer answers for small sheets, computed: document 01, "Refusal numbers"; document 02, T-07. Assumes nothing.
use Rattle.std.specs.Prelude.{ℕ, ◌≡◌, refl, [], ◌∷◌, ◌++◌, length, Result, Ok, Err}
use Rattle.laws.specs.Text.{text}
use Rattle.heading.specs.declared.Header.{Header}
use Rattle.sheet.specs.Tables.{Tables}
use Rattle.made.specs.declared.Flaw.TheVariants.{BadHeader, Faulty, Unlisted}
use Rattle.made.specs.Made.{tables_of}
use Rattle.made.specs.Examples.{header, placed, label, symbol, odd, border, raster, book, ring, computed as computed_verdict}
use Rattle.layout.specs.Sheet.{row_text}
use Rattle.layout.specs.Examples.{computed as computed_text}
use Rattle.writer.specs.declared.Unwritten.{Unwritten}
use Rattle.writer.specs.declared.Unwritten.TheVariants.{TooLong, NoRoom, Refused}
use Rattle.writer.specs.Write.{written_after, write_of, output_of, number_of, row_of, length_of}
use Rattle.writer.specs.Put.{frames, row_size}

-- `write_of` with every definition opened, so that it computes
unfoldable pub computed : Header → ℕ → Tables → ℕ → Result ℕ Unwritten
unfolding write_of computed_verdict computed_text
computed h count t room = write_of h count t room

abbrev one : Tables
one = tables_of label (text "7") [] []

-- a text of 98 bytes: room for it, for more, and one byte short
room : (write_of (header 1) 1 one 98 ≡ Ok 98) × (write_of (header 1) 1 one 99 ≡ Ok 98) × (write_of (header 1) 1 one 97 ≡ Err (NoRoom 98))
unfolding computed
room = (refl, refl, refl)

-- two rows, each with its own letters and points
two-rows : write_of (header 1) 2 (tables_of (border 0 0 4 ++ placed 1 0 4 label) (text "77") [] (ring 0)) 308 ≡ Ok 308
unfolding computed
two-rows = refl

-- 6 first, then row by row 15 and 10, all before the room
refused : (write_of (header 4) 2 one 0 ≡ Err (Refused BadHeader)) × (write_of (header 1) 2 one 0 ≡ Err (Refused (Faulty 1))) × (write_of (header 1) 1 (tables_of (symbol 12) [] [] []) 0 ≡ Err (Refused (Unlisted 0)))
    × (write_of (header 1) 2 (tables_of (symbol 5 ++ symbol 12) [] [] []) 999 ≡ Err (Refused (Unlisted 1)))
unfolding computed
refused = (refl, refl, refl, refl)

-- within a row 15 comes before 10; a 10 in row 0 comes before a 15 in row 1
order : (write_of (header 1) 1 (tables_of (odd 0 12 18 0) [] [] []) 999 ≡ Err (Refused (Faulty 0))) × (write_of (header 1) 2 (tables_of (symbol 12 ++ odd 0 5 18 0) [] [] []) 999 ≡ Err (Refused (Unlisted 0)))
unfolding computed
order = (refl, refl)

-- a false start is 15 (T-07), before 10 and before the room
false-start : (write_of (header 1) 2 (tables_of (border 0 0 4 ++ placed 1 0 5 label) (text "77") [] (ring 0)) 308 ≡ Err (Refused (Faulty 1)))
    × (write_of (header 1) 1 (tables_of (placed 0 1 0 (symbol 12)) [] [] []) 0 ≡ Err (Refused (Faulty 0)))
unfolding computed
false-start = (refl, refl)

-- a file of the most bytes is written, one byte more is 1, which comes before 14 and behind 15 and 10
longest : (written_after (Ok tt) 16777216 16777216 ≡ Ok 16777216) × (written_after (Ok tt) 16777216 16777215 ≡ Err (NoRoom 16777216)) × (written_after (Ok tt) 16777217 16777217 ≡ Err TooLong)
    × (written_after (Ok tt) 16777217 0 ≡ Err TooLong) × (written_after (Err (Faulty 2)) 16777217 0 ≡ Err (Refused (Faulty 2))) × (written_after (Err (Unlisted 2)) 16777217 0 ≡ Err (Refused (Unlisted 2)))
longest = (refl, refl, refl, refl, refl, refl)

-- the text stands at the output's start and the rest is as it was; a refusal alters nothing
output : (output_of (Ok 2) (65 ∷ 66 ∷ []) (1 ∷ 2 ∷ 3 ∷ []) ≡ 65 ∷ 66 ∷ 3 ∷ []) × (output_of (Err (NoRoom 2)) (65 ∷ 66 ∷ []) (1 ∷ []) ≡ 1 ∷ [])
    × (output_of (Err TooLong) (65 ∷ 66 ∷ []) (1 ∷ 2 ∷ 3 ∷ []) ≡ 1 ∷ 2 ∷ 3 ∷ []) × (output_of (Err (Refused (Faulty 0))) (65 ∷ 66 ∷ []) (1 ∷ 2 ∷ 3 ∷ []) ≡ 1 ∷ 2 ∷ 3 ∷ [])
output = (refl, refl, refl, refl)

-- the paper's numbers: 14 with the needed length, 15 and 10 with the row, 1 alone
told : (number_of (Err (NoRoom 98)) ≡ 14) × (length_of (Err (NoRoom 98)) ≡ 98) × (number_of (Err (Refused (Faulty 3))) ≡ 15) × (row_of (Err (Refused (Faulty 3))) ≡ 3) × (number_of (Err (Refused (Unlisted 3))) ≡ 10)
    × (row_of (Err (Refused (Unlisted 3))) ≡ 3) × (number_of (Err TooLong) ≡ 1) × (length_of (Err TooLong) ≡ 0)
told = (refl, refl, refl, refl, refl, refl, refl, refl)

-- a row's size is its text's
sizes : (row_size label ≡ length (row_text one)) × (row_size (border 0 1 8) ≡ length (row_text (tables_of (border 0 1 8) (text "7") (4 ∷ []) (ring 0 ++ ring 0))))
    × (row_size (symbol 5) ≡ length (row_text (tables_of (symbol 5) [] [] []))) × (row_size (raster 0 0 4) ≡ length (row_text (tables_of (raster 0 0 4) (text "7") [] (ring 0))))
    × (row_size (book 0 1 2) ≡ length (row_text (tables_of (book 0 1 2) (text "7") [] (ring 0))))
unfolding computed row_size frames
sizes = (refl, refl, refl, refl, refl)
