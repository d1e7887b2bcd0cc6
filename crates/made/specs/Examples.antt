-- Small sheets that are handed in, each judged by computation: document 01, "Sheet tables"; document 02, T-07. Assumes nothing.
use Rattle.std.specs.Prelude.{ℕ, ◌≡◌, refl, List, [], ◌∷◌, ◌++◌, true, false, take, leb, ℤ, pos, negsuc, Result, Ok, Err}
use Rattle.laws.specs.Lists.{all, all_at, below, holds, same}
use Rattle.laws.specs.Text.{text}
use Rattle.record.specs.declared.Mode.{Mode}
use Rattle.record.specs.declared.Mode.TheVariants.{Loose, Exact}
use Rattle.number.specs.Number.{is_real}
use Rattle.spelling.specs.Spelling.{integer_most}
use Rattle.token.specs.Lex.{may_lie_outside}
use Rattle.kinds.specs.Kinds.{own_width, schedule, fixed, fixed_vertices, unsaid, codes, is_listed, want_at}
use Rattle.heading.specs.declared.Header.{Header}
use Rattle.heading.specs.Heading.{name_byte, is_name, is_header}
use Rattle.sheet.specs.Tables.{Tables, no_starts, start_cells}
use Rattle.made.specs.declared.Flaw.{Flaw}
use Rattle.made.specs.declared.Flaw.TheVariants.{BadHeader, Faulty, Unlisted}
use Rattle.made.specs.Made.{tables_of, in_range, has_field, is_outside, is_cell, are_numbers, are_letters, sum, are_counts, are_reals, is_closed, are_closed, ring_sizes, are_points, is_made, are_starts, starts_at, is_coded, judge_rows, judge_of, fault_of, used_of}

abbrev pub header : ℕ → Header
header kind = record { kind = kind; name = text "Z999_000100"; scale = pos 1000000 }

-- the starts of a sheet's first row; and a row as it stands behind so many letters, island counts and points
abbrev pub at_first : List ℤ
at_first = start_cells no_starts

abbrev pub placed : ℕ → ℕ → ℕ → List ℤ → List ℤ
placed letters islands points row = take own_width row ++ start_cells (starts_at letters islands points)

-- rows: a text that lies outside, a symbol of a code, a border; and a ring of four vertices, closed where `last` is 0
abbrev pub label : List ℤ
label = pos 2 ∷ pos 1 ∷ pos 0 ∷ pos 18 ∷ pos 0 ∷ pos 3000 ∷ negsuc 4 ∷ pos 0 ∷ pos 0 ∷ pos 1 ∷ pos 0 ∷ pos 0 ∷ at_first

abbrev pub symbol : ℕ → List ℤ
symbol code = pos 3 ∷ pos 0 ∷ pos code ∷ pos 0 ∷ pos 0 ∷ pos 5 ∷ pos 5 ∷ pos 0 ∷ pos 0 ∷ pos 0 ∷ pos 0 ∷ pos 0 ∷ at_first

abbrev pub border : ℕ → ℕ → ℕ → List ℤ
border outside islands vertices =
    pos 1 ∷ pos outside ∷ pos 0 ∷ pos 18 ∷ pos 0 ∷ pos 1 ∷ pos 1 ∷ pos 1 ∷ pos 1 ∷ pos 1 ∷ pos islands ∷ pos vertices ∷ at_first

abbrev pub ring : ℕ → List ℤ
ring last = pos 0 ∷ pos 0 ∷ pos 9 ∷ pos 0 ∷ pos 9 ∷ pos 9 ∷ pos last ∷ pos 0 ∷ []

-- `judge_of` with every definition opened, so that it computes
unfoldable pub computed : Mode → Header → ℕ → Tables → Result Unit Flaw
unfolding judge_of is_header is_name all_at name_byte same judge_rows is_made are_starts are_numbers below is_cell is_outside has_field in_range is_real want_at may_lie_outside schedule holds are_letters all sum are_counts are_points are_reals is_closed are_closed ring_sizes is_coded is_listed codes unsaid fixed_vertices fixed
computed mode h count t = judge_of mode h count t

-- the verdict on the first rows of some tables
unfoldable pub judged : Mode → List ℤ → List ℕ → List ℕ → List ℤ → ℕ → Result Unit Flaw
unfolding computed
judged mode rows letters islands points count = judge_of mode (header 1) count (tables_of rows letters islands points)

-- a sheet of no rows is well made, whatever its tables hold; the header is judged first
none : judged Exact (negsuc 0 ∷ []) (32 ∷ []) [] [] 0 ≡ Ok tt
unfolding judged
none = refl

no-header : judge_of Loose (header 4) 1 (tables_of [] [] [] []) ≡ Err BadHeader
unfolding judge_of is_header
no-header = refl

-- a text outside is well made; blank letters are not, nor is a row that is not wholly held
text-outside : judged Exact label (text "7") [] [] 1 ≡ Ok tt
unfolding judged
text-outside = refl

text-blank : judged Exact label (text " ") [] [] 1 ≡ Err (Faulty 0)
unfolding judged
text-blank = refl

second-missing : judged Exact label (text "7") [] [] 2 ≡ Err (Faulty 1)
unfolding judged
second-missing = refl

-- an unlisted code is well made; in exact mode it comes before a fault in the next row
symbol-loose : judged Loose (symbol 12) [] [] [] 1 ≡ Ok tt
unfolding judged
symbol-loose = refl

symbol-exact : judged Exact (symbol 12) [] [] [] 2 ≡ Err (Unlisted 0)
unfolding judged
symbol-exact = refl

-- a closed ring, an open one, a border outside, an island of three, though closed, and an island that closes
closed : judged Exact (border 0 0 4) (text "7") [] (ring 0) 1 ≡ Ok tt
unfolding judged
closed = refl

open-ring : judged Exact (border 0 0 4) (text "7") [] (ring 1) 1 ≡ Err (Faulty 0)
unfolding judged
open-ring = refl

border-outside : judged Exact (border 1 0 4) (text "7") [] (ring 0) 1 ≡ Err (Faulty 0)
unfolding judged
border-outside = refl

island-of-three : judged Exact (border 0 1 8) (text "7") (3 ∷ []) (ring 0 ++ (pos 0 ∷ pos 0 ∷ pos 2 ∷ pos 2 ∷ pos 3 ∷ pos 2 ∷ pos 2 ∷ pos 2 ∷ [])) 1 ≡ Err (Faulty 0)
unfolding judged
island-of-three = refl

with-island : judged Exact (border 0 1 8) (text "7") (4 ∷ []) (ring 0 ++ ring 0) 1 ≡ Ok tt
unfolding judged
with-island = refl

-- ---- numbers, letters and counts, each with the next one that is faulty

-- a text of so many letters, of a size
abbrev pub labelled : ℕ → ℕ → List ℤ
labelled letters size = pos 2 ∷ pos 0 ∷ pos 0 ∷ pos size ∷ pos 0 ∷ pos 3000 ∷ negsuc 4 ∷ pos 0 ∷ pos 0 ∷ pos letters ∷ pos 0 ∷ pos 0 ∷ at_first

-- blanks inside are fine, at an end not; bytes 32 to 126; at least one letter, and all of them held
letters-in : (judged Loose (labelled 3 18) (text "a b") [] [] 1 ≡ Ok tt) × (judged Loose (labelled 2 18) (text "7 ") [] [] 1 ≡ Err (Faulty 0))
    × (judged Loose (labelled 2 18) (text " 7") [] [] 1 ≡ Err (Faulty 0)) × (judged Loose (labelled 1 18) (126 ∷ []) [] [] 1 ≡ Ok tt)
    × (judged Loose (labelled 1 18) (127 ∷ []) [] [] 1 ≡ Err (Faulty 0)) × (judged Loose (labelled 0 18) (text "7") [] [] 1 ≡ Err (Faulty 0))
    × (judged Loose (labelled 2 18) (text "7") [] [] 1 ≡ Err (Faulty 0))
unfolding judged
letters-in = (refl, refl, refl, refl, refl, refl, refl)

-- sizes and codes 0 to 9999
integers-in : (judged Loose (labelled 1 9999) (text "7") [] [] 1 ≡ Ok tt) × (judged Loose (labelled 1 10000) (text "7") [] [] 1 ≡ Err (Faulty 0))
    × (judged Loose (symbol 0) [] [] [] 1 ≡ Ok tt) × (judged Exact (symbol 0) [] [] [] 1 ≡ Err (Unlisted 0)) × (judged Loose (symbol 10000) [] [] [] 1 ≡ Err (Faulty 0))
unfolding judged
integers-in = (refl, refl, refl, refl, refl)

-- and that is what four characters spell
integers-spelt : (leb 9999 integer_most ≡ true) × (leb 10000 integer_most ≡ false)
integers-spelt = (refl, refl)

-- a symbol of a code, with an outside mark, a size, which it lacks, and a y
abbrev pub odd : ℕ → ℕ → ℕ → ℕ → List ℤ
odd outside code size y = pos 3 ∷ pos outside ∷ pos code ∷ pos size ∷ pos 0 ∷ pos 5 ∷ pos y ∷ pos 0 ∷ pos 0 ∷ pos 0 ∷ pos 0 ∷ pos 0 ∷ at_first

-- a field that the kind lacks is 0, an outside mark 0 or 1, a real in its range
lacking : (judged Exact (odd 1 5 0 99999999999) [] [] [] 1 ≡ Ok tt) × (judged Exact (odd 0 5 18 0) [] [] [] 1 ≡ Err (Faulty 0)) × (judged Exact (odd 2 5 0 0) [] [] [] 1 ≡ Err (Faulty 0))
    × (judged Exact (odd 0 5 0 100000000000) [] [] [] 1 ≡ Err (Faulty 0))
unfolding judged
lacking = (refl, refl, refl, refl)

-- TESTO to LINEA may lie outside, no other kind; there is no kind 0 and none past 7
outside-kinds : (is_outside 0 (pos 1) ≡ false) × (is_outside 1 (pos 1) ≡ false) × (is_outside 2 (pos 1) ≡ true) × (is_outside 5 (pos 1) ≡ true) × (is_outside 6 (pos 1) ≡ false)
    × (is_outside 7 (pos 1) ≡ false) × (is_outside 1 (pos 0) ≡ true) × (is_outside 7 (pos 0) ≡ true) × (is_outside 8 (pos 1) ≡ false)
unfolding computed
outside-kinds = (refl, refl, refl, refl, refl, refl, refl, refl, refl)

-- a raster and a survey book's line, with an outside mark, a code and so many vertices
abbrev pub raster : ℕ → ℕ → ℕ → List ℤ
raster outside code vertices = pos 6 ∷ pos outside ∷ pos code ∷ pos 0 ∷ pos 0 ∷ pos 0 ∷ pos 0 ∷ pos 0 ∷ pos 0 ∷ pos 1 ∷ pos 0 ∷ pos vertices ∷ at_first

abbrev pub book : ℕ → ℕ → ℕ → List ℤ
book outside code vertices = pos 7 ∷ pos outside ∷ pos code ∷ pos 0 ∷ pos 0 ∷ pos 0 ∷ pos 0 ∷ pos 0 ∷ pos 0 ∷ pos 1 ∷ pos 0 ∷ pos vertices ∷ at_first

-- a raster has 4 vertices and no other number of them, which need not close; no outside mark, no code, its points all held
rasters-in : (judged Exact (raster 0 0 4) (text "7") [] (ring 1) 1 ≡ Ok tt) × (judged Loose (raster 0 0 3) (text "7") [] (ring 0) 1 ≡ Err (Faulty 0)) × (judged Loose (raster 0 0 5) (text "7") [] (ring 0 ++ ring 0) 1 ≡ Err (Faulty 0))
    × (judged Loose (raster 0 0 0) (text "7") [] (ring 0) 1 ≡ Err (Faulty 0)) × (judged Loose (raster 1 0 4) (text "7") [] (ring 0) 1 ≡ Err (Faulty 0)) × (judged Loose (raster 0 1 4) (text "7") [] (ring 0) 1 ≡ Err (Faulty 0))
    × (judged Loose (raster 0 0 4) (text "7") [] (pos 0 ∷ pos 0 ∷ pos 9 ∷ pos 0 ∷ pos 9 ∷ pos 9 ∷ []) 1 ≡ Err (Faulty 0)) × (judged Loose (raster 0 0 4) [] [] (ring 0) 1 ≡ Err (Faulty 0))
unfolding judged
rasters-in = (refl, refl, refl, refl, refl, refl, refl, refl)

-- a survey book's line has 2 vertices at least and need not close; type 1 alone is listed; no outside mark
books-in : (judged Exact (book 0 1 2) (text "7") [] (ring 0) 1 ≡ Ok tt) × (judged Exact (book 0 1 1) (text "7") [] (ring 0) 1 ≡ Err (Faulty 0)) × (judged Exact (book 0 2 2) (text "7") [] (ring 0) 1 ≡ Err (Unlisted 0))
    × (judged Loose (book 0 2 2) (text "7") [] (ring 0) 1 ≡ Ok tt) × (judged Loose (book 1 1 2) (text "7") [] (ring 0) 1 ≡ Err (Faulty 0))
unfolding judged
books-in = (refl, refl, refl, refl, refl)

-- within a row 15 comes before 10
both-wrong : (judged Exact (odd 0 12 18 0) [] [] [] 1 ≡ Err (Faulty 0)) × (judged Exact (symbol 5 ++ odd 2 12 0 0) [] [] [] 2 ≡ Err (Faulty 1))
unfolding judged
both-wrong = (refl, refl)

abbrev pub line : ℕ → List ℤ
line vertices = pos 5 ∷ pos 0 ∷ pos 6 ∷ pos 0 ∷ pos 0 ∷ pos 0 ∷ pos 0 ∷ pos 0 ∷ pos 0 ∷ pos 0 ∷ pos 0 ∷ pos vertices ∷ at_first

-- a line has 2 vertices at least, and need not close; a border 4 and 4 for each island; its points are all held
counts-in : (judged Exact (line 2) [] [] (ring 0) 1 ≡ Ok tt) × (judged Exact (line 1) [] [] (ring 0) 1 ≡ Err (Faulty 0)) × (judged Exact (border 0 0 3) (text "7") [] (ring 0) 1 ≡ Err (Faulty 0))
    × (judged Exact (border 0 1 7) (text "7") (4 ∷ []) (ring 0 ++ ring 0) 1 ≡ Err (Faulty 0)) × (judged Exact (border 0 1 8) (text "7") [] (ring 0 ++ ring 0) 1 ≡ Err (Faulty 0))
    × (judged Exact (border 0 1 8) (text "7") (5 ∷ []) (ring 0 ++ ring 0) 1 ≡ Err (Faulty 0)) × (judged Exact (border 0 1 8) (text "7") (4 ∷ []) (ring 0) 1 ≡ Err (Faulty 0))
    × (judged Exact (border 0 1 8) (text "7") (4 ∷ []) (ring 0 ++ ring 1) 1 ≡ Err (Faulty 0))
unfolding judged
counts-in = (refl, refl, refl, refl, refl, refl, refl, refl)

-- a ring that is open in y alone
open-in-y : judged Exact (border 0 0 4) (text "7") [] (pos 0 ∷ pos 0 ∷ pos 9 ∷ pos 0 ∷ pos 9 ∷ pos 9 ∷ pos 0 ∷ pos 1 ∷ []) 1 ≡ Err (Faulty 0)
unfolding judged
open-in-y = refl

-- the paper's numbers: 6, 15 and 10, the row with the last two
faults : (fault_of (Err BadHeader) ≡ record { number = 6; row = 0 }) × (fault_of (Err (Faulty 3)) ≡ record { number = 15; row = 3 }) × (fault_of (Err (Unlisted 3)) ≡ record { number = 10; row = 3 })
faults = (refl, refl, refl)

-- two rows of tables that hold one: they use what one row uses, yet the sheet is not well made
used-twice : used_of 2 (tables_of label (text "7") [] []) ≡ used_of 1 (tables_of label (text "7") [] [])
unfolding used_of
used-twice = refl

counted-once : judged Loose label (text "7") [] [] 1 ≡ Ok tt
unfolding judged
counted-once = refl

counted-twice : judged Loose label (text "7") [] [] 2 ≡ Err (Faulty 1)
unfolding judged
counted-twice = refl

-- ---- the starts

-- a text, a border with an island and a symbol, each with its starts; the symbol says where its letters, island counts and points would begin
abbrev three : ℕ → ℕ → ℕ → Result Unit Flaw
three l i p =
    judged Exact (labelled 2 18 ++ placed 2 0 0 (border 0 1 8) ++ placed l i p (symbol 5)) (text "S77") (4 ∷ []) (ring 0 ++ ring 0) 3

starts-right : three 3 1 8 ≡ Ok tt
unfolding judged
starts-right = refl

-- points are counted in points; each start is exact
starts-false : (three 3 1 16 ≡ Err (Faulty 2)) × (three 3 1 7 ≡ Err (Faulty 2)) × (three 3 1 9 ≡ Err (Faulty 2)) × (three 3 0 8 ≡ Err (Faulty 2)) × (three 3 2 8 ≡ Err (Faulty 2)) × (three 2 1 8 ≡ Err (Faulty 2))
    × (three 4 1 8 ≡ Err (Faulty 2)) × (three 0 0 0 ≡ Err (Faulty 2))
unfolding judged
starts-false = (refl, refl, refl, refl, refl, refl, refl, refl)

-- a first row begins at 0, also where a start is below 0, and also in a field of which the row has none; a false start comes before an unlisted code (10), and
-- behind a row that has one
starts_first : (judged Loose (placed 1 0 0 (symbol 5)) [] [] [] 1 ≡ Err (Faulty 0)) × (judged Loose (placed 0 1 0 (symbol 5)) [] [] [] 1 ≡ Err (Faulty 0)) × (judged Loose (placed 0 0 1 (symbol 5)) [] [] [] 1 ≡ Err (Faulty 0))
    × (judged Loose (take own_width (symbol 5) ++ negsuc 0 ∷ pos 0 ∷ pos 0 ∷ []) [] [] [] 1 ≡ Err (Faulty 0)) × (judged Exact (placed 1 0 0 (symbol 12)) [] [] [] 1 ≡ Err (Faulty 0))
    × (judged Exact (symbol 12 ++ placed 1 0 0 (symbol 5)) [] [] [] 2 ≡ Err (Unlisted 0))
unfolding judged
starts_first = (refl, refl, refl, refl, refl, refl)

-- a row of 12 numbers is not wholly held
starts-missing : judged Loose (take own_width (symbol 5)) [] [] [] 1 ≡ Err (Faulty 0)
unfolding judged
starts-missing = refl
