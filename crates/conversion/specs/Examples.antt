-- The conversion of small files, computed: document 02, T-09.
use Rattle.std.specs.Prelude.{ℕ, ◌≡◌, refl, List, replicate}
use Rattle.laws.specs.Text.{text}
use Rattle.reader.specs.ExitExamples.{computed_column}
use Rattle.sheet.specs.Examples.{computed as computed_reading}
use Rattle.made.specs.Examples.{computed as computed_verdict}
use Rattle.layout.specs.Examples.{computed as computed_text}
use Rattle.listing.specs.Examples.{computed_lines}
use Rattle.conversion.specs.Conversion.{clean_text, conversion_of}

-- `conversion_of` with every definition opened, so that it computes
unfoldable pub computed : List ℕ → List ℕ
unfolding conversion_of clean_text computed_reading computed_column computed_verdict computed_text computed_lines
computed bs = conversion_of bs

-- a note behind every number; the clean file's records end in CR LF
notes : conversion_of (text "MAPPA\nZ999_000100\n1000.000 scala\nLINEA\\\n6 tipo\n2 2\n1.000 x1\n+2.000 y1\n03.000 x2\n-0.000 \\\nEOF")
    ≡ text "MAPPA\r\nZ999_000100\r\n    1000.000\r\nLINEA\\\r\n   6\r\n   2\r\n       1.000\r\n       2.000\r\n       3.000\r\n       0.000\r\nEOF\r\n"
unfolding computed
notes = refl

-- a clean file is its own
clean : conversion_of (text "MAPPA\r\nZ999_000100\r\n    1000.000\r\nEOF\r\n") ≡ text "MAPPA\r\nZ999_000100\r\n    1000.000\r\nEOF\r\n"
unfolding computed
clean = refl

-- a refusal of the reading with its record, offset and column; a code that is not listed with its row, 0 and 0
refusals : (conversion_of (text "MAPPA\nZ999_000100\n1000.000\nSIMBOLO\n12x\n") ≡ text "REFUSED 8 5 35 3\n") × (conversion_of (text "MAPPA\nZ999_000100\n1000.000\nLINEA\n6\n1 x\n") ≡ text "REFUSED 11 6 35 0\n")
    × (conversion_of (text "MAPPA\nZ999_000100\n1000.000\nSIMBOLO\n4\n0.000\n0.000\n0.000\nSIMBOLO\n12 x\n0.000\n0.000\n0.000\nEOF") ≡ text "REFUSED 10 1 0 0\n")
unfolding computed
refusals = (refl, refl, refl)

-- 8,192 bytes are read, one more is not
input-most : (conversion_of (replicate 8192 65) ≡ text "REFUSED 2 1 0 0\n") × (conversion_of (replicate 8193 65) ≡ text "REFUSED 1 0 0 0\n")
unfolding computed
input-most = (refl, refl)
