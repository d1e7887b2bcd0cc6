-- Clean files, computed: document 02, T-13. Assumes nothing.
use Rattle.std.specs.Prelude.{ℕ, ◌≡◌, refl, List}
use Rattle.laws.specs.Text.{text}
use Rattle.record.specs.declared.refusal.Refusal.TheVariants.{Keyword}
use Rattle.sheet.specs.Examples as Sheets
use Rattle.made.specs.declared.Flaw.TheVariants.{Unlisted}
use Rattle.layout.specs.Examples as Texts
use Rattle.writer.specs.declared.Unwritten.TheVariants.{Refused}
use Rattle.writer.specs.Examples as Writings
use Rattle.clean.specs.Clean.{Cleaning, clean, unread, unwritten, clean_of}

-- `clean_of` with every definition opened, so that it computes
unfoldable pub computed : List ℕ → Cleaning
unfolding clean_of Sheets.computed Texts.computed Writings.computed
computed bs = clean_of bs

-- a symbol outside, as loose mode takes it: line feeds alone, numbers unpadded and with a sign, no line end at the EOF record
loose : List ℕ
loose = text "MAPPA\nZ999_000100\n1000.000\nSIMBOLO\\\n 14\n+0.000\n-5.001\n 7.250\nEOF"

-- as exact mode has it
exact : List ℕ
exact = text "MAPPA\r\nZ999_000100\r\n    1000.000\r\nSIMBOLO\\\r\n  14\r\n       0.000\r\n      -5.001\r\n       7.250\r\nEOF\r\n"

loose-cleaned : clean_of loose ≡ clean exact
unfolding computed loose exact
loose-cleaned = refl

-- a clean file is its own
exact-cleaned : clean_of exact ≡ clean exact
unfolding computed exact
exact-cleaned = refl

-- a millimetre further, another file
moved : clean_of (text "MAPPA\nZ999_000100\n1000.000\nSIMBOLO\\\n14\n0.000\n-5.001\n7.251\nEOF")
    ≡ clean (text "MAPPA\r\nZ999_000100\r\n    1000.000\r\nSIMBOLO\\\r\n  14\r\n       0.000\r\n      -5.001\r\n       7.251\r\nEOF\r\n")
unfolding computed
moved = refl

-- the reading's refusal: no such keyword, in record 4, at byte 27; the writer's: a code that is not listed, in row 0
refusals : (clean_of (text "MAPPA\nZ999_000100\n1000.000\nSIMBOLI\n") ≡ unread Keyword 4 27)
    × (clean_of (text "MAPPA\nZ999_000100\n1000.000\nSIMBOLO\n12\n0.000\n0.000\n0.000\nEOF\n") ≡ unwritten (Refused (Unlisted 0)))
unfolding computed
refusals = (refl, refl)
