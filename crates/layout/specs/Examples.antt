-- The text of small sheets, computed: document 01, "Sheet tables", and the specification's own examples. Assumes nothing.
use Rattle.std.specs.Prelude.{ℕ, ◌≡◌, refl, List, [], ◌∷◌, ◌++◌}
use Rattle.laws.specs.Text.{text}
use Rattle.token.specs.Lex.{keywords, key_text}
use Rattle.kinds.specs.Kinds.{schedule, want_at}
use Rattle.spelling.specs.Spelling.{digits, places, aligned, integer_text, minus, decimal, bare_real, real_text}
use Rattle.heading.specs.declared.Header.{Header}
use Rattle.header.specs.Header.{first_words}
use Rattle.sheet.specs.Tables.{Tables}
use Rattle.sheet.specs.Examples.{padded, specimen_header, specimen_tables, scanned, scanned_header, scanned_tables}
use Rattle.made.specs.Made.{tables_of}
use Rattle.made.specs.Examples.{header, placed, label, labelled, symbol, border, ring}
use Rattle.layout.specs.Sheet.{fields_text, integers_text, reals_text, row_text, rows_text, header_text, sheet_text}

-- `sheet_text` with every definition opened, so that it computes
unfoldable pub computed : Header → ℕ → Tables → List ℕ
unfolding sheet_text header_text rows_text row_text reals_text integers_text fields_text first_words key_text keywords schedule want_at integer_text real_text bare_real aligned minus decimal digits places
computed h count t = sheet_text h count t

-- no rows: header and EOF; the tables' contents do not matter
none : sheet_text (header 2) 0 (tables_of label (text "7") [] []) ≡ text "MAPPA FONDIARIO\r\nZ999_000100\r\n    1000.000\r\nEOF\r\n"
unfolding computed
none = refl

-- a text that lies outside
outside : sheet_text (header 1) 1 (tables_of label (text "7") [] []) ≡ text "MAPPA\r\nZ999_000100\r\n    1000.000\r\nTESTO\\\r\n7\r\n  18\r\n       0.000\r\n       3.000\r\n      -0.005\r\nEOF\r\n"
unfolding computed
outside = refl

-- inner blanks are written as they are
inner-blanks : row_text (tables_of (labelled 6 18) (text "Via  3x") [] []) ≡ text "TESTO\r\nVia  3\r\n  18\r\n       0.000\r\n       3.000\r\n      -0.005\r\n"
unfolding computed
inner-blanks = refl

-- an island's count before the points, the outer ring's points before the island's; then the next row
with-island : rows_text 2 (tables_of (border 0 1 8 ++ placed 1 1 8 (symbol 5)) (text "7") (4 ∷ []) (ring 0 ++ ring 0))
    ≡ text "BORDO\r\n7\r\n  18\r\n       0.000\r\n       0.001\r\n       0.001\r\n       0.001\r\n       0.001\r\n   1\r\n   8\r\n   4\r\n"
    ++ (text "       0.000\r\n       0.000\r\n       0.009\r\n       0.000\r\n       0.009\r\n       0.009\r\n       0.000\r\n       0.000\r\n"
    ++ (text "       0.000\r\n       0.000\r\n       0.009\r\n       0.000\r\n       0.009\r\n       0.009\r\n       0.000\r\n       0.000\r\n"
    ++ text "SIMBOLO\r\n   5\r\n       0.000\r\n       0.005\r\n       0.005\r\n"))
unfolding computed
with-island = refl

-- the specification's own examples are written as they were read
specimen : sheet_text specimen_header 6 specimen_tables ≡ padded
unfolding computed specimen_tables padded
specimen = refl

-- so is a scanned sheet: a raster's points follow its letters with no count
pub scanned-written : sheet_text scanned_header 2 scanned_tables ≡ scanned
unfolding computed scanned_tables scanned
scanned-written = refl
