-- A line's points as the code writes them, coordinate by coordinate, and what it goes by: document 02, T-11. Assumes nothing: these are definitions.
-- That this is the text of `Element` is a law (cml/proofs/CoordLaws: `coords-are`).
use Rattle.std.specs.Prelude.{ℕ, ◌+◌, ◌-◌, ◌*◌, ◌/◌, ◌%◌, ◌≤◌, ◌≡◌, List, [], ◌∷◌, ◌++◌, true, cond, length, take, eqb, ℤ}
use Rattle.laws.specs.Text.{text}
use Rattle.spelling.specs.Spelling.{bare_real}
use Rattle.kinds.specs.Kinds.{code_place, vertices_place}
use Rattle.sheet.specs.Tables.{Tables}
use Rattle.made.specs.Made.{kind_of, are_reals}
use Rattle.row.specs.Walk.{cell_in}
use Rattle.cml.specs.Element.{coord_most, element_text}
use Rattle.cml.specs.Lines.{line_kind, polyline_of}

-- what stands before vertex i: nothing before the first, a new COORD where the one before it is full, else one blank
unfoldable pub gap : ℕ → List ℕ
gap i = cond (eqb i 0) [] (cond (eqb (i % coord_most) 0) (text "</COORD><COORD>") (text " "))

-- the bytes that stand before the first n vertices, all together: one before each but the first, 14 more for each COORD that is full by then
abbrev pub gaps_to : ℕ → ℕ
gaps_to n = n - 1 + 14 * ((n - 1) / coord_most)

-- what stands before coordinate j: a comma before a y, before an x what stands before its vertex
unfoldable pub mark : ℕ → List ℕ
mark j = cond (eqb (j % 2) 1) (text ",") (gap (j / 2))

-- the coordinates with what stands before each, the first of them coordinate j
unfoldable pub spaced_text : ℕ → List ℤ → List ℕ
spaced_text j [] = []
spaced_text j (z ∷ s) = mark j ++ (bare_real z ++ spaced_text (j + 1) s)

-- the first row as an element, if it is a line
unfoldable pub row_element : Tables → List ℕ
row_element t = cond (eqb (kind_of t) line_kind) (element_text (polyline_of t)) []

-- the bytes of so many rows and coordinates at most: 98 for a row without its points, 14 for a coordinate with what stands before it
abbrev pub lines_most : ℕ → ℕ → ℕ
lines_most count coordinates = 98 * count + 14 * coordinates

-- what a row that was judged has, and its element is written by: counts in their range, points held and real
pub record Drawn (rows points : List ℤ) : Type 0 where
  pub code-most : cell_in rows 0 ≡ line_kind → cell_in rows code_place ≤ 9999
  pub vertices-most : cell_in rows vertices_place ≤ 9999
  pub held : 2 * cell_in rows vertices_place ≤ length points
  pub reals : are_reals (take (2 * cell_in rows vertices_place) points) ≡ true
