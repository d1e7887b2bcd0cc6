-- Readings into small lent tables, computed: what the answer is and what the tables hold at exit. Document 01, "Sheet tables".
use Rattle.std.specs.Prelude.{◌≡◌, refl, List, [], ◌∷◌, ℕ, replicate, pos, negsuc}
use Rattle.sheet.specs.Examples.{computed}
use Rattle.laws.specs.Text.{text}
use Rattle.record.specs.declared.Mode.{Mode}
use Rattle.record.specs.declared.Mode.TheVariants.{Loose, Exact}
use Rattle.sheet.specs.Tables.{Tables}
use Rattle.column.specs.Examples.{computed_refusal}
use Rattle.reader.specs.Columns.{due_at, due_from, column_from, reading_column}
use Rattle.reader.specs.Read.{Answer, holds_all, read_of, number_of, record_of, offset_of, column_of, counts_of}
use Rattle.reader.specs.Exit.{answer_to, exit_of, used_part}

-- the column with every definition opened, so that it computes
unfoldable pub computed_column : Mode → List ℕ → ℕ
unfolding reading_column column_from due_from due_at computed computed_refusal
computed_column mode bs = reading_column mode bs

-- with every definition opened, so that it computes
abbrev opened : Mode → List ℕ → Tables → Answer
unfolding computed_column holds_all read_of
opened mode bs t = answer_to mode bs t

-- one text; its y is -0.005
written-file : List ℕ
written-file = text "MAPPA\nZ999_000100\n1000.000\nTESTO\nab\n18\n0.000\n3.000\n-0.005\nEOF"

-- tables of these lengths, which hold something
lent : ℕ → ℕ → Tables
lent rows letters = record { rows = replicate rows (pos 7); letters = replicate letters 65; islands = 65 ∷ []; points = pos 7 ∷ [] }

-- it is read, and past the used part nothing is altered
exit-more : exit_of Loose written-file (lent 16 3)
    ≡ record {
      rows = pos 2 ∷ pos 0 ∷ pos 0 ∷ pos 18 ∷ pos 0 ∷ pos 3000 ∷ negsuc 4 ∷ pos 0 ∷ pos 0 ∷ pos 2 ∷ pos 0 ∷ pos 0 ∷ pos 0 ∷ pos 0 ∷ pos 0 ∷ pos 7 ∷ [];
      letters = text "abA";
      islands = 65 ∷ [];
      points = pos 7 ∷ [];
    }
unfolding opened written-file lent
exit-more = refl

-- larger tables hold the same in their used part
exit-larger : used_part (counts_of (answer_to Loose written-file (lent 30 9))) (exit_of Loose written-file (lent 30 9))
    ≡ used_part (counts_of (answer_to Loose written-file (lent 16 3))) (exit_of Loose written-file (lent 16 3))
unfolding opened written-file lent
exit-larger = refl

-- one letter short: 14, and nothing is altered
exit-short : (number_of (answer_to Loose written-file (lent 16 1)) ≡ 14) × (exit_of Loose written-file (lent 16 1) ≡ lent 16 1)
unfolding opened written-file lent
exit-short = (refl, refl)

-- exact mode demands the CR: 3 at record 1, and nothing is altered
exit-refused : (number_of (answer_to Exact written-file (lent 16 3)) ≡ 3) × (record_of (answer_to Exact written-file (lent 16 3)) ≡ 1)
    × (offset_of (answer_to Exact written-file (lent 16 3)) ≡ 0) × (exit_of Exact written-file (lent 16 3) ≡ lent 16 3)
unfolding opened written-file lent
exit-refused = (refl, refl, refl, refl)

-- a refusal's number, record, offset and column
refusal : Mode → List ℕ → List ℕ
unfolding opened lent
refusal mode bs =
    let x = answer_to mode bs (lent 0 0) in
    number_of x ∷ record_of x ∷ offset_of x ∷ column_of x ∷ []

-- 8 says the column: of a scale, of an integer and of a real in the sections; all others say 0
refusal-columns : (refusal Loose (text "MAPPA\nZ999_000100\n1000.0000\nEOF") ≡ 8 ∷ 3 ∷ 18 ∷ 9 ∷ [])
    × (refusal Loose (text "MAPPA\nZ999_000100\n1000.000\nTESTO\nab\n18x\nEOF") ≡ 8 ∷ 6 ∷ 36 ∷ 3 ∷ [])
    × (refusal Loose (text "MAPPA\nZ999_000100\n1000.000\nTESTO\nab\n18\n0.5\nEOF") ≡ 8 ∷ 7 ∷ 39 ∷ 4 ∷ [])
    × (refusal Exact (text "MAPPA\r\nZ999_000100\r\n    1000.000\r\nTESTO\r\nab\r\n 018\r\nEOF\r\n") ≡ 8 ∷ 6 ∷ 45 ∷ 2 ∷ [])
    × (refusal Loose (text "MAPPA\nZ999_000100\n1000.000\nTESTO\n \n") ≡ 9 ∷ 5 ∷ 33 ∷ 0 ∷ [])
    × (refusal Loose (text "MAPPA\nZ999_000100\n0.000\nEOF") ≡ 6 ∷ 3 ∷ 18 ∷ 0 ∷ [])
unfolding refusal
refusal-columns = (refl, refl, refl, refl, refl, refl)
