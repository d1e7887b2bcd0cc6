-- Lines written as CML, computed: document 02, T-11. Assumes nothing.
use Rattle.std.specs.Prelude.{ℕ, zero, suc, ◌≡◌, refl, List, [], ◌∷◌, ◌++◌, length, ℤ, pos, negsuc, Result, Ok, Err}
use Rattle.laws.specs.Text.{text}
use Rattle.heading.specs.declared.Header.{Header}
use Rattle.sheet.specs.Tables.{Tables}
use Rattle.spelling.specs.Spelling.{digits, places, count_text, minus, decimal, bare_real}
use Rattle.made.specs.declared.Flaw.TheVariants.{BadHeader, Faulty}
use Rattle.made.specs.Made.{tables_of}
use Rattle.made.specs.Examples.{header, symbol, line, book, ring, computed as computed_verdict}
use Rattle.writer.specs.declared.Unwritten.{Unwritten}
use Rattle.writer.specs.declared.Unwritten.TheVariants.{NoRoom, Refused}
use Rattle.cml.specs.Element.{pair_text, parted_text, pairs_text, coord_text, coord_count, coords_text, outside_word, opening, start_tag, element_text, elements_text}
use Rattle.cml.specs.Lines.{polylines_of, cml_text, cml_of}
use Rattle.cml.specs.Spaced.{gap, gaps_to, mark, spaced_text}

-- `cml_text` and `cml_of` with every definition opened, so that they compute
unfoldable pub computed_text : ℕ → Tables → List ℕ
unfolding cml_text polylines_of elements_text element_text start_tag opening outside_word coords_text coord_text pairs_text parted_text pair_text count_text bare_real digits minus decimal places
computed_text count t = cml_text count t

unfoldable pub computed : Header → ℕ → Tables → ℕ → Result ℕ Unwritten
unfolding cml_of computed_verdict computed_text
computed h count t room = cml_of h count t room

-- source 001's own example, its first two vertices
shown : element_text (record { outside = 0; code = 2; points = pos 8465567 ∷ negsuc 25851574 ∷ pos 8462969 ∷ negsuc 25850645 ∷ [] })
    ≡ text "<LINEA valenza=\"CONSOLID\" esterconf=\"NO\" cod=\"2\" n.vert=\"2\"><COORD>8465.567,-25851.575 8462.969,-25850.646</COORD></LINEA>\n"
unfolding computed_text
shown = refl

-- outside, the greatest code, both ends of the range, numbers below one and below zero
outside : element_text (record { outside = 1; code = 9999; points = pos 0 ∷ negsuc 4 ∷ pos 99999999999 ∷ negsuc 9999999998 ∷ [] })
    ≡ text "<LINEA valenza=\"CONSOLID\" esterconf=\"SI\" cod=\"9999\" n.vert=\"2\"><COORD>0.000,-0.005 99999999.999,-9999999.999</COORD></LINEA>\n"
unfolding computed_text
outside = refl

-- lines of 2, 999, 1000, 1001, 2000, 2001 and 9999 vertices have so many COORDs
counts : (coord_count 2 ≡ 1) × (coord_count 999 ≡ 1) × (coord_count 1000 ≡ 1) × (coord_count 1001 ≡ 2) × (coord_count 2000 ≡ 2) × (coord_count 2001 ≡ 3) × (coord_count 9999 ≡ 10)
counts = (refl, refl, refl, refl, refl, refl, refl)

-- what stands before so many vertices, all together: a new COORD takes 15 bytes in place of one
gaps : (gaps_to 0 ≡ 0) × (gaps_to 1 ≡ 0) × (gaps_to 2 ≡ 1) × (gaps_to 1000 ≡ 999) × (gaps_to 1001 ≡ 1014) × (gaps_to 2001 ≡ 2028)
gaps = (refl, refl, refl, refl, refl, refl)

-- n vertices at 0, 0
noughts : ℕ → List ℤ
noughts zero = []
noughts (suc n) = pos 0 ∷ pos 0 ∷ noughts n

-- a pair takes 11 bytes, what stands before it one but for the first of a COORD, and the two tags 15: 1000 vertices fill one COORD, and one more begins another
filled : (length (coords_text (coord_count 1000) (noughts 1000)) ≡ 12014) × (length (coords_text (coord_count 1001) (noughts 1001)) ≡ 12040)
unfolding noughts computed_text
filled = (refl, refl)

-- the vertices 1000 and 1001 of a line, counted from 1, as the code comes to them
full : spaced_text 1998 (pos 1 ∷ pos 2 ∷ pos 3 ∷ pos 4 ∷ []) ≡ text " 0.001,0.002</COORD><COORD>0.003,0.004"
unfolding spaced_text mark gap computed_text
full = refl

-- only LINEA rows are written: no symbol, no line of LIBRETTO; no lines, no bytes
one_line : cml_text 2 (tables_of (symbol 7 ++ line 2) [] [] (pos 1000 ∷ pos 0 ∷ pos 0 ∷ pos 1000 ∷ []))
    ≡ text "<LINEA valenza=\"CONSOLID\" esterconf=\"NO\" cod=\"6\" n.vert=\"2\"><COORD>1.000,0.000 0.000,1.000</COORD></LINEA>\n"
unfolding computed_text
one_line = refl

no_lines : (cml_text 1 (tables_of (book 0 1 2) (text "7") [] (ring 0)) ≡ []) × (cml_text 1 (tables_of (symbol 7) [] [] []) ≡ [])
unfolding computed_text
no_lines = (refl, refl)

-- room for it, for more, and one byte short; a code that no table lists is taken; no lines want no room
abbrev one : Tables
one = tables_of (line 2) [] [] (ring 0)

room : (cml_of (header 1) 1 one 107 ≡ Ok 107) × (cml_of (header 1) 1 one 108 ≡ Ok 107) × (cml_of (header 1) 1 one 106 ≡ Err (NoRoom 107))
    × (cml_of (header 1) 1 (tables_of (symbol 12) [] [] []) 0 ≡ Ok 0)
unfolding computed
room = (refl, refl, refl, refl)

-- 6 first, then row by row 15, before the room
refused : (cml_of (header 4) 1 one 0 ≡ Err (Refused BadHeader)) × (cml_of (header 1) 2 one 0 ≡ Err (Refused (Faulty 1))) × (cml_of (header 1) 1 (tables_of (line 1) [] [] (ring 0)) 0 ≡ Err (Refused (Faulty 0)))
unfolding computed
refused = (refl, refl, refl)
