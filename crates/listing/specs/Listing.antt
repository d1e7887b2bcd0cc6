-- What the listing program writes for an input: document 01, "Listing program". Assumes nothing: these are definitions.
-- Every text is bytes; "Figures parted by one blank" is read so that one blank stands before each figure.
use Rattle.std.specs.Prelude.{ℕ, ◌+◌, ◌*◌, ◌/◌, List, [], ◌∷◌, ◌++◌, cond, length, get_or, leb, eqb, ℤ, pos}
use Rattle.laws.specs.Text.{text}
use Rattle.record.specs.declared.Mode.TheVariants.{Loose}
use Rattle.record.specs.Refusals.{too_long}
use Rattle.record.specs.Refusals as Refusals
use Rattle.spelling.specs.Spelling.{count_text}
use Rattle.heading.specs.declared.Header.{Header}
use Rattle.kinds.specs.Kinds.{row_width}
use Rattle.sheet.specs.Tables.{Tables}
use Rattle.sheet.specs.Reading.{Reading, sheet, refused, reading}
use Rattle.reader.specs.Columns.{reading_column}
use Rattle.made.specs.Made.{nat_of}
use Rattle.tally.specs.declared.Taken.{Taken}
use Rattle.tally.specs.Take.{tally_of, number_of, row_of}

-- ---- lines

abbrev pub one_blank : List ℕ
one_blank = 32 ∷ []

-- "Lines end in LF"
abbrev pub line_feed : List ℕ
line_feed = 10 ∷ []

abbrev pub figure : ℕ → List ℕ
figure n = one_blank ++ count_text n

-- the figures of a line, and its end
unfoldable pub figures : List ℕ → List ℕ
figures [] = line_feed
figures (n ∷ s) = figure n ++ figures s

unfoldable pub word_line : List ℕ → List ℕ → List ℕ
word_line word s = word ++ figures s

-- "`MAP`, kind, name, scale in thousandths"
unfoldable pub map_line : Header → List ℕ
map_line h = text "MAP" ++ (figure h.kind ++ (one_blank ++ (h.name ++ figures (nat_of h.scale ∷ []))))

-- "six class lines in the order above"
unfoldable pub class_words : List (List ℕ)
class_words = text "CONFINE" ∷ text "OTHER" ∷ text "ROAD" ∷ text "WATER" ∷ text "BUILDING" ∷ text "PARCEL" ∷ []

-- "each borders, outer total, islands, island total": the four figures of class k
abbrev pub figure_at : List ℤ → ℕ → ℕ
figure_at f i = nat_of (get_or f i (pos 0))

unfoldable pub four_of : List ℤ → ℕ → List ℕ
four_of f k = figure_at f (4 * k) ∷ figure_at f (4 * k + 1) ∷ figure_at f (4 * k + 2) ∷ figure_at f (4 * k + 3) ∷ []

-- the line of class k
abbrev pub class_line : List ℤ → ℕ → List ℕ
class_line f k = word_line (get_or class_words k []) (four_of f k)

-- the lines of these classes, the first of which is class k
unfoldable pub class_lines : ℕ → List (List ℕ) → List ℤ → List ℕ
class_lines k [] f = []
class_lines k (w ∷ ws) f = word_line w (four_of f k) ++ class_lines (k + 1) ws f

-- "`ROWS` and the count"
unfoldable pub rows_line : ℕ → List ℕ
rows_line n = word_line (text "ROWS") (n ∷ [])

-- "A refusal prints only `REFUSED`, number, place, offset", and the column "as a fourth number on each refusal line" (document 02, T-04)
unfoldable pub refused_line : ℕ → ℕ → ℕ → ℕ → List ℕ
refused_line number place offset column = word_line (text "REFUSED") (number ∷ place ∷ offset ∷ column ∷ [])

-- ---- the text

unfoldable pub sheet_lines : Header → ℕ → List ℤ → List ℕ
sheet_lines h count f = map_line h ++ (class_lines 0 class_words f ++ rows_line count)

-- "17 and 18 give the row and 0"
unfoldable pub tallied_text : Header → ℕ → Taken → List ℕ
tallied_text h count t =
    cond (eqb (number_of t.outcome) 0) (sheet_lines h count t.tally.figures) (refused_line (number_of t.outcome) (row_of t.outcome) 0 0)

unfoldable pub sheet_listing : Header → ℕ → Tables → List ℕ
sheet_listing h count o = tallied_text h count (tally_of h count o)

abbrev pub read_text : ℕ → Reading → List ℕ
read_text column (sheet h o) = sheet_listing h (length o.rows / row_width) o
read_text column (refused refusal place offset) = refused_line (Refusals.number_of refusal) place offset column

-- "at most 8,192 bytes .. loose mode"; "more input gives `REFUSED 1 0 0`", and the column 0
abbrev pub input_most : ℕ
input_most = 8192

unfoldable pub listing_of : List ℕ → List ℕ
listing_of bs = cond (leb (length bs) input_most) (read_text (reading_column Loose bs) (reading Loose bs)) (refused_line too_long 0 0 0)
