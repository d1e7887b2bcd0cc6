-- Cells of rings, computed (document 02, T-03): a centre on an edge, an edge that lies level, a vertex at a centre's height.
use Rattle.std.specs.Prelude.{ℕ, ◌≡◌, refl, Bool, true, false, List, [], ◌∷◌, ℤ, pos, negsuc, Option}
use Rattle.number.specs.Number.{is_real}
use Rattle.plane.specs.Rings.{held}
use Rattle.grid.specs.Inside.{straddles, crosses-east, counts, edge-counts, crossings, in-ring, ring-covers}
use Rattle.grid.specs.Words.{row_word, row_words, cells_set, all_cells_set}
use Rattle.grid.specs.Cells.{is_cell_side, grid-real, by-corner, near-corner, near-from, laid, untraced, ring_cells}

-- the definitions opened, so that they compute
unfoldable pub computed : List ℤ → ℕ → ℕ → ℤ → ℤ → ℕ → Option (List ℕ)
unfolding ring_cells laid is_cell_side held grid-real is_real near-from near-corner by-corner row_words row_word ring-covers in-ring crossings edge-counts counts crosses-east straddles
computed ps from n cx cy s = ring_cells ps from n cx cy s

unfoldable pub computed_count : (ℕ → ℕ → Bool) → ℕ → ℕ
unfolding computed all_cells_set cells_set
computed_count p n = all_cells_set p n

-- a square of side 8 from (0, 0); cells of side 2 with the corner at (0, 8): four of the first row, in the four highest bits
abbrev square : List ℤ
square = pos 0 ∷ pos 0 ∷ pos 8 ∷ pos 0 ∷ pos 8 ∷ pos 8 ∷ pos 0 ∷ pos 8 ∷ pos 0 ∷ pos 0 ∷ []

abbrev square_at : ℤ → ℤ → ℕ → ℕ → Bool
square_at cx cy r c = ring-covers square 0 5 cx cy 2 r c

row-of-square : row_word (square_at (pos 0) (pos 8) 0) 64 ≡ 17293822569102704640
unfolding computed
row-of-square = refl

square-covers : all_cells_set (square_at (pos 0) (pos 8)) 64 ≡ 16
unfolding computed_count
square-covers = refl

-- an edge exactly through centres: those on the west side are inside, those on the east side are not
through-centres : (square_at (negsuc 0) (pos 8) 0 0 ≡ true) × (square_at (pos 7) (pos 8) 0 0 ≡ false)
unfolding computed
through-centres = (refl, refl)

-- a level edge through centres counts for none of them, and the others decide: centres on the south side are inside, on the north side not
on-level-edge : (square_at (pos 0) (pos 1) 0 0 ≡ true) × (square_at (pos 0) (pos 9) 0 0 ≡ false)
unfolding computed
on-level-edge = (refl, refl)

-- a slanted edge from (8, 0) to (0, 8), through the centres (1, 7), (3, 5), ..: "strictly east", so a centre on it is not inside
abbrev slanted : List ℤ
slanted = pos 0 ∷ pos 0 ∷ pos 8 ∷ pos 0 ∷ pos 0 ∷ pos 8 ∷ pos 0 ∷ pos 0 ∷ []

on-slanted-edge : (ring-covers slanted 0 4 (pos 0) (pos 8) 2 1 0 ≡ true) × (ring-covers slanted 0 4 (pos 0) (pos 8) 2 1 1 ≡ false)
unfolding computed
on-slanted-edge = (refl, refl)

-- vertices at a centre's height: a diamond with its west and east vertices at (0, 3) and (6, 3), where row 1's centres lie. The two edges that meet at a vertex count once there
abbrev diamond : List ℤ
diamond = pos 0 ∷ pos 3 ∷ pos 3 ∷ pos 6 ∷ pos 6 ∷ pos 3 ∷ pos 3 ∷ pos 0 ∷ pos 0 ∷ pos 3 ∷ []

at-a-vertex : (row_word (ring-covers diamond 0 5 (pos 0) (pos 6) 2 1) 64 ≡ 16140901064495857664) × (ring-covers diamond 0 5 (negsuc 3) (pos 6) 2 1 0 ≡ false) × (ring-covers diamond 0 5 (pos 5) (pos 6) 2 1 0 ≡ false)
unfolding computed
at-a-vertex = (refl, refl, refl)

-- what is not traced: no cell, no ring, a grid off the real range at either end, a vertex too far off
untraced-all : (ring_cells square 0 5 (pos 0) (pos 8) 0 ≡ untraced) × (ring_cells square 0 5 (pos 0) (pos 8) 10001 ≡ untraced) × (ring_cells square 1 5 (pos 0) (pos 8) 2 ≡ untraced)
    × (ring_cells square 0 5 (negsuc 9999999999) (pos 8) 2 ≡ untraced) × (ring_cells square 0 5 (pos 0) (negsuc 9999999871) 2 ≡ untraced)
    × (ring_cells square 0 5 (pos 40000001) (pos 8) 2 ≡ untraced) × (ring_cells square 0 5 (pos 0) (negsuc 39999992) 2 ≡ untraced)
unfolding computed
untraced-all = (refl, refl, refl, refl, refl, refl, refl)

-- 40,000,000 mm pass, either way, and the ends of the real range
traced-all : (near-from square (pos 40000000) (negsuc 39999991) 0 5 ≡ true) × (near-from square (negsuc 39999991) (pos 40000000) 0 5 ≡ true) × (near-from square (negsuc 39999992) (pos 40000000) 0 5 ≡ false)
    × (grid-real (negsuc 9999999998) (pos 99999999999) 10000 ≡ true) × (grid-real (pos 99999359999) (negsuc 9999359998) 10000 ≡ true) × (grid-real (pos 99999360000) (pos 0) 10000 ≡ false)
    × (grid-real (pos 0) (negsuc 9999359999) 10000 ≡ false) × (grid-real (pos 0) (pos 100000000000) 10000 ≡ false)
unfolding computed
traced-all = (refl, refl, refl, refl, refl, refl, refl, refl)
