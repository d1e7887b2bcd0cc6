-- The sections: document 01's table of the records after each keyword, and its listed codes; T-05's two sections of scanned sheets; T-07's starts of a row. Assumes nothing: these are definitions.
-- A kind is a row of each table here, from 1; its index 0 is empty.
use Rattle.std.specs.Prelude.{ℕ, List, [], ◌∷◌, Bool, cond, ◌&&◌, get_or, leb, eqb}
use Rattle.laws.specs.Lists.{holds}
use Rattle.token.specs.declared.Want.{Want}
use Rattle.token.specs.declared.Want.TheVariants.{Text, Int, Real}

-- ---- a row of 15 numbers, by the place of each

abbrev pub row_width : ℕ
row_width = 15

-- those that the section itself gives stand before the starts
abbrev pub own_width : ℕ
own_width = 12

abbrev pub code_place : ℕ
code_place = 2

abbrev pub size_place : ℕ
size_place = 3

abbrev pub angle_place : ℕ
angle_place = 4

abbrev pub x_place : ℕ
x_place = 5

abbrev pub y_place : ℕ
y_place = 6

abbrev pub x2_place : ℕ
x2_place = 7

abbrev pub y2_place : ℕ
y2_place = 8

abbrev pub letters_place : ℕ
letters_place = 9

abbrev pub islands_place : ℕ
islands_place = 10

abbrev pub vertices_place : ℕ
vertices_place = 11

-- where the row's letters, island counts and points, counted in points, begin, or would begin if it has none
abbrev pub first_letter_place : ℕ
first_letter_place = 12

abbrev pub first_island_place : ℕ
first_island_place = 13

abbrev pub first_point_place : ℕ
first_point_place = 14

-- what the record of a place is read as: angle, x, y and the second x, y are reals
unfoldable pub want_at : ℕ → Want
want_at p = cond (eqb p letters_place) Text (cond (leb angle_place p && leb p y2_place) Real Int)

-- the records after a keyword, as places of its row
unfoldable pub schedule : List (List ℕ)
schedule =
    [] ∷
    (letters_place ∷ size_place ∷ angle_place ∷ x_place ∷ y_place ∷ x2_place ∷ y2_place ∷ islands_place ∷ vertices_place ∷ []) ∷
    (letters_place ∷ size_place ∷ angle_place ∷ x_place ∷ y_place ∷ []) ∷
    (code_place ∷ angle_place ∷ x_place ∷ y_place ∷ []) ∷
    (letters_place ∷ code_place ∷ x_place ∷ y_place ∷ x2_place ∷ y2_place ∷ []) ∷
    (code_place ∷ vertices_place ∷ []) ∷
    (letters_place ∷ []) ∷
    (letters_place ∷ code_place ∷ vertices_place ∷ []) ∷ []

-- the place that stands after p, 0 after the last
unfoldable pub next_in : ℕ → List ℕ → ℕ
next_in p [] = 0
next_in p (q ∷ qs) = cond (eqb q p) (get_or qs 0 0) (next_in p qs)

-- the field of a kind after the one at p, or the first where p is 0; 0 after the last
unfoldable pub next_of : ℕ → ℕ → ℕ
next_of kind p = next_in p (0 ∷ get_or schedule kind [])

-- the vertices of a section that has points and no record of their count, else 0: a raster has four
unfoldable pub fixed : List ℕ
fixed = 0 ∷ 0 ∷ 0 ∷ 0 ∷ 0 ∷ 0 ∷ 4 ∷ 0 ∷ []

unfoldable pub fixed_vertices : ℕ → ℕ
fixed_vertices kind = get_or fixed kind 0

-- what a row has at a place for which its section has no record: 0, or those vertices
unfoldable pub unsaid : ℕ → ℕ → ℕ
unsaid kind p = cond (eqb p vertices_place) (fixed_vertices kind) 0

-- listed codes: symbols 1-11, 13-16, 20; fiducials 8, 20; lines 1, 5, 6, 11, 12, 29-35; a survey book's lines 1
unfoldable pub codes : List (List ℕ)
codes =
    [] ∷ [] ∷ [] ∷
    (1 ∷ 2 ∷ 3 ∷ 4 ∷ 5 ∷ 6 ∷ 7 ∷ 8 ∷ 9 ∷ 10 ∷ 11 ∷ 13 ∷ 14 ∷ 15 ∷ 16 ∷ 20 ∷ []) ∷
    (8 ∷ 20 ∷ []) ∷
    (1 ∷ 5 ∷ 6 ∷ 11 ∷ 12 ∷ 29 ∷ 30 ∷ 31 ∷ 32 ∷ 33 ∷ 34 ∷ 35 ∷ []) ∷
    [] ∷
    (1 ∷ []) ∷ []

unfoldable pub is_listed : ℕ → ℕ → Bool
is_listed kind code = holds (get_or codes kind []) code
