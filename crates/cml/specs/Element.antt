-- A line as the element LINEA of source 001, on one line that ends in LF, with no blank between tags: document 02, T-11.
-- Assumes nothing: these are definitions.
use Rattle.std.specs.Prelude.{ℕ, zero, suc, ◌-◌, ◌*◌, ◌/◌, List, [], ◌∷◌, ◌++◌, cond, length, take, drop, eqb, ℤ}
use Rattle.laws.specs.Text.{text}
use Rattle.spelling.specs.Spelling.{count_text, bare_real}

-- what is written of a line: its outside mark, its code and its points, two numbers a vertex
pub record Polyline : Type 0 where
  pub outside : ℕ
  pub code : ℕ
  pub points : List ℤ

abbrev pub vertices_of : Polyline → ℕ
vertices_of a = length a.points / 2

-- ---- the points

-- `x,y`, three decimals, no padding
unfoldable pub pair_text : ℤ → ℤ → List ℕ
pair_text x y = bare_real x ++ 44 ∷ bare_real y

-- pairs with a blank before each
unfoldable pub parted_text : List ℤ → List ℕ
parted_text [] = []
parted_text (x ∷ []) = []
parted_text (x ∷ y ∷ s) = text " " ++ (pair_text x y ++ parted_text s)

-- pairs parted by one blank
unfoldable pub pairs_text : List ℤ → List ℕ
pairs_text [] = []
pairs_text (x ∷ []) = []
pairs_text (x ∷ y ∷ s) = pair_text x y ++ parted_text s

unfoldable pub coord_text : List ℤ → List ℕ
coord_text s = text "<COORD>" ++ (pairs_text s ++ text "</COORD>")

-- the vertices that a COORD holds at most (source 001, note 9)
abbrev pub coord_most : ℕ
coord_most = 1000

-- the COORDs of n vertices: one, and one more for each time that those before it are full
abbrev pub coord_count : ℕ → ℕ
coord_count n = suc ((n - 1) / coord_most)

-- so many COORDs, filled in turn, nothing between the tags
unfoldable pub coords_text : ℕ → List ℤ → List ℕ
coords_text zero s = []
coords_text (suc k) s = coord_text (take (2 * coord_most) s) ++ coords_text k (drop (2 * coord_most) s)

-- ---- the element

-- SI for outside, else NO
unfoldable pub outside_word : ℕ → List ℕ
outside_word o = cond (eqb o 1) (text "SI") (text "NO")

-- the start tag up to the code
unfoldable pub opening : ℕ → List ℕ
opening o = text "<LINEA valenza=\"CONSOLID\" esterconf=\"" ++ (outside_word o ++ text "\" cod=\"")

-- all of it: outside mark, code, number of vertices
unfoldable pub start_tag : ℕ → ℕ → ℕ → List ℕ
start_tag o c n = opening o ++ (count_text c ++ (text "\" n.vert=\"" ++ (count_text n ++ text "\">")))

unfoldable pub element_text : Polyline → List ℕ
element_text a = start_tag a.outside a.code (vertices_of a) ++ (coords_text (coord_count (vertices_of a)) a.points ++ text "</LINEA>\n")

-- one element behind the other, with no outer document
unfoldable pub elements_text : List Polyline → List ℕ
elements_text [] = []
elements_text (a ∷ s) = element_text a ++ elements_text s
