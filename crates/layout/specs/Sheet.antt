-- The text of a sheet, in the exact mode's layout: document 01's table of sections, and the specification's own. Assumes nothing: these are definitions.
use Rattle.std.specs.Prelude.{ℕ, zero, suc, ◌+◌, ◌-◌, ◌*◌, List, [], ◌∷◌, ◌++◌, get_or, ℤ}
use Rattle.laws.specs.Text.{text}
use Rattle.token.specs.declared.Want.{Want}
use Rattle.token.specs.declared.Want.TheVariants.{Key, Text, Int, Real}
use Rattle.token.specs.Lex.{key_text}
use Rattle.kinds.specs.Kinds.{schedule, want_at}
use Rattle.spelling.specs.Spelling.{integer_text, real_text}
use Rattle.heading.specs.declared.Header.{Header}
use Rattle.header.specs.Header.{first_words}
use Rattle.sheet.specs.Tables.{Tables}
use Rattle.made.specs.Made.{cell_at, count_at, kind_of, letters_of, islands_of, points_of, rest_of}

-- a record: its content, CR and LF
abbrev pub line : List ℕ → List ℕ
line c = c ++ 13 ∷ 10 ∷ []

-- a field of the first row, by what it is
abbrev pub field_text : Tables → ℕ → Want → List ℕ
field_text t p Key = []
field_text t p Text = letters_of t
field_text t p Int = integer_text (count_at t p)
field_text t p Real = real_text (cell_at t p)

-- the records of its fields, in the schedule's order
unfoldable pub fields_text : Tables → List ℕ → List ℕ
fields_text t [] = []
fields_text t (p ∷ ps) = line (field_text t p (want_at p)) ++ fields_text t ps

-- one integer per island
unfoldable pub integers_text : List ℕ → List ℕ
integers_text [] = []
integers_text (n ∷ s) = line (integer_text n) ++ integers_text s

-- two reals per vertex
unfoldable pub reals_text : List ℤ → List ℕ
reals_text [] = []
reals_text (z ∷ s) = line (real_text z) ++ reals_text s

-- a section: its keyword, its fields, its island counts, its points
unfoldable pub row_text : Tables → List ℕ
row_text t =
    line (key_text (2 * kind_of t + count_at t 1)) ++ (fields_text t (get_or schedule (kind_of t) []) ++ (integers_text (islands_of t) ++ reals_text (points_of t)))

unfoldable pub rows_text : ℕ → Tables → List ℕ
rows_text zero t = []
rows_text (suc n) t = row_text t ++ rows_text n (rest_of t)

-- the three records of the header
unfoldable pub header_text : Header → List ℕ
header_text h = line (get_or first_words (h.kind - 1) []) ++ (line h.name ++ line (real_text h.scale))

-- the header, the sections, `EOF`
unfoldable pub sheet_text : Header → ℕ → Tables → List ℕ
sheet_text h count t = header_text h ++ (rows_text count t ++ line (text "EOF"))
