-- The lines of document 01's example, and of a refusal, computed: "Listing program".
use Rattle.std.specs.Prelude.{ℕ, ◌≡◌, refl, List, [], ◌∷◌, ◌++◌, replicate, ℤ, pos}
use Rattle.laws.specs.Text.{text}
use Rattle.spelling.specs.Spelling.{digits, count_text}
use Rattle.sheet.specs.Examples.{computed as computed_reading}
use Rattle.reader.specs.ExitExamples.{computed_column}
use Rattle.tally.specs.Examples.{computed as computed_tally}
use Rattle.heading.specs.declared.Header.{Header}
use Rattle.listing.specs.Listing.{line_feed, figures, word_line, map_line, class_words, four_of, class_lines, rows_line, refused_line, sheet_lines, tallied_text, sheet_listing, listing_of}

-- the lines with every definition opened, so that they compute
unfoldable pub computed_lines : Header → ℕ → List ℤ → List ℕ
unfolding sheet_lines map_line class_lines class_words four_of rows_line word_line figures count_text digits refused_line
computed_lines h count f = sheet_lines h count f

-- `listing_of` with every definition opened, so that it computes
unfoldable pub computed : List ℕ → List ℕ
unfolding listing_of sheet_listing tallied_text computed_lines computed_reading computed_column computed_tally
computed bs = listing_of bs

header : Header
header = record { kind = 1; name = text "Z999_000100"; scale = pos 1000000 }

-- one parcel of doubled area 400,000,000, no island
tally : List ℤ
tally = replicate 20 (pos 0) ++ pos 1 ∷ pos 400000000 ∷ pos 0 ∷ pos 0 ∷ []

the-sheet : sheet_lines header 2 tally
    ≡ text "MAP 1 Z999_000100 1000000" ++ (line_feed ++
    ((text "CONFINE 0 0 0 0" ++ line_feed) ++
    ((text "OTHER 0 0 0 0" ++ line_feed) ++
    ((text "ROAD 0 0 0 0" ++ line_feed) ++
    ((text "WATER 0 0 0 0" ++ line_feed) ++
    ((text "BUILDING 0 0 0 0" ++ line_feed) ++
    ((text "PARCEL 1 400000000 0 0" ++ line_feed) ++
    (text "ROWS 2" ++ line_feed))))))))
unfolding computed header tally
the-sheet = refl

-- more than 8,192 bytes
too_long : refused_line 1 0 0 0 ≡ text "REFUSED 1 0 0 0" ++ line_feed
unfolding computed
too_long = refl

-- a class's figures in their order: borders, outer total, islands, island total
four-figures : class_lines 4 (text "BUILDING" ∷ []) (replicate 16 (pos 0) ++ pos 1 ∷ pos 20 ∷ pos 3 ∷ pos 4 ∷ replicate 4 (pos 9)) ≡ text "BUILDING 1 20 3 4\n"
unfolding computed
four-figures = refl

-- a refusal's number, place, offset and column in their order; 8 alone has a column
refusal : (refused_line 8 32 176 5 ≡ text "REFUSED 8 32 176 5\n") × (listing_of (text "MAPPA\nZ999_000100\n1000.000\n") ≡ text "REFUSED 2 4 27 0\n")
    × (listing_of (text "MAPPA\nZ999_000100\n1000.0000\n") ≡ text "REFUSED 8 3 18 9\n")
unfolding computed
refusal = (refl, refl, refl)

-- 8,192 bytes are read, one more is not
input-most : (listing_of (replicate 8192 65) ≡ text "REFUSED 2 1 0 0\n") × (listing_of (replicate 8193 65) ≡ text "REFUSED 1 0 0 0\n")
unfolding computed
input-most = (refl, refl)

-- document 02, T-02: a border of eleven letters is a parcel on a map, and OTHER in a union sheet
eleven-letters : (listing_of (text "MAPPA\nZ999_000100\n1000.000\nBORDO\n12345678901\n18\n0.000\n1.000\n1.000\n1.000\n1.000\n0\n4\n0.000\n0.000\n0.009\n0.000\n0.000\n0.005\n0.000\n0.000\nEOF")
    ≡ text "MAP 1 Z999_000100 1000000\nCONFINE 0 0 0 0\nOTHER 0 0 0 0\nROAD 0 0 0 0\nWATER 0 0 0 0\nBUILDING 0 0 0 0\nPARCEL 1 45 0 0\nROWS 1\n")
    × (listing_of (text "QUADRO D'UNIONE\nZ999_0001QU\n1000.000\nBORDO\n12345678901\n18\n0.000\n1.000\n1.000\n1.000\n1.000\n0\n4\n0.000\n0.000\n0.009\n0.000\n0.000\n0.005\n0.000\n0.000\nEOF")
    ≡ text "MAP 3 Z999_0001QU 1000000\nCONFINE 0 0 0 0\nOTHER 1 45 0 0\nROAD 0 0 0 0\nWATER 0 0 0 0\nBUILDING 0 0 0 0\nPARCEL 0 0 0 0\nROWS 1\n")
unfolding computed
eleven-letters = (refl, refl)

-- an empty sheet; a ring that is too wide gives its row, 0 and 0
no_rows : listing_of (text "MAPPA\nZ999_000100\n1000.000\nEOF") ≡ text "MAP 1 Z999_000100 1000000\nCONFINE 0 0 0 0\nOTHER 0 0 0 0\nROAD 0 0 0 0\nWATER 0 0 0 0\nBUILDING 0 0 0 0\nPARCEL 0 0 0 0\nROWS 0\n"
unfolding computed
no_rows = refl

wide_row : listing_of (text "MAPPA\nZ999_000100\n1000.000\nSIMBOLO\n5\n0.000\n0.000\n0.000\nBORDO\n7\n18\n0.000\n1.000\n1.000\n1.000\n1.000\n0\n4\n0.000\n0.000\n20000.001\n0.000\n0.000\n9.000\n0.000\n0.000\nEOF")
    ≡ text "REFUSED 17 1 0 0\n"
unfolding computed
wide_row = refl
