-- Marked example (j) of document 01, "Areas", a border near northing 5,000,000,000 mm, a net below 0 and a wide island, by computation. Assumes nothing.
use Rattle.std.specs.Prelude.{ℕ, ◌≡◌, refl, List, [], ◌∷◌, ◌++◌, ℤ, pos, negsuc, ◌+ℤ◌, Some, None, Result, Ok, Err}
use Rattle.plane.specs.declared.NoArea.{NoArea}
use Rattle.plane.specs.declared.NoArea.TheVariants.{Wide, Missing}
use Rattle.plane.specs.Examples.{computed as computed_area}
use Rattle.made.specs.Made.{sum, ring_sizes}
use Rattle.area.specs.declared.Areas.{Areas}
use Rattle.area.specs.BorderRings.{total_from, both_areas, areas_of, net_of, ring_place, ring_of}

-- a square ring from its lowest corner
abbrev square : ℤ → ℤ → ℕ → List ℤ
square x y side =
    x ∷ y ∷ (x +ℤ pos side) ∷ y ∷ (x +ℤ pos side) ∷ (y +ℤ pos side) ∷ x ∷ (y +ℤ pos side) ∷ x ∷ y ∷ []

-- `areas_of` with every definition opened, so that it computes
unfoldable pub computed : ℕ → List ℕ → List ℤ → Result Areas NoArea
unfolding areas_of total_from sum computed_area
computed v islands ps = areas_of v islands ps

-- borders of one island: its areas, and the net
areas : List ℤ → Result Areas NoArea
unfolding computed
areas ps = areas_of 10 (5 ∷ []) ps

-- (j) a square of side 10 with an island of side 2
with-island : areas (square (pos 0) (pos 0) 10 ++ square (pos 4) (pos 4) 2) ≡ Ok (both_areas (pos 200) (pos 8))
unfolding areas
with-island = refl

with-island-net : net_of (areas (square (pos 0) (pos 0) 10 ++ square (pos 4) (pos 4) 2)) ≡ Ok (pos 192)
unfolding areas
with-island-net = refl

-- an island that is larger than its outer ring
below-nought : net_of (areas (square (pos 4) (pos 4) 2 ++ square (pos 0) (pos 0) 10)) ≡ Ok (negsuc 191)
unfolding areas
below-nought = refl

-- where x1*y2 itself would not fit; the rings may lie as far apart as they like
northern : net_of (areas (square (negsuc 2499999999) (pos 5000000000) 20000000 ++ square (pos 0) (pos 5000000000) 10)) ≡ Ok (pos 799999999999800)
unfolding areas
northern = refl

-- one ring of them is too wide
wide-island : areas (square (pos 0) (pos 0) 10 ++ square (pos 0) (pos 0) 20000001) ≡ Err Wide
unfolding areas
wide-island = refl

-- a vertex more than the table has, and islands that take all vertices
short : areas (square (pos 0) (pos 0) 10 ++ (pos 0 ∷ pos 0 ∷ [])) ≡ Err Missing
unfolding areas
short = refl

all-taken : areas_of 5 (5 ∷ []) (square (pos 0) (pos 0) 10) ≡ Err Missing
unfolding computed
all-taken = refl

-- 14 vertices, of which two islands have 4 and 5
ring-outer : ring_of 14 (4 ∷ 5 ∷ []) 0 ≡ Some (ring_place 0 5)
unfolding ring_of ring_sizes sum
ring-outer = refl

ring-first : ring_of 14 (4 ∷ 5 ∷ []) 1 ≡ Some (ring_place 5 4)
unfolding ring_of ring_sizes sum
ring-first = refl

ring-second : ring_of 14 (4 ∷ 5 ∷ []) 2 ≡ Some (ring_place 9 5)
unfolding ring_of ring_sizes sum
ring-second = refl

ring-past : ring_of 14 (4 ∷ 5 ∷ []) 3 ≡ None
unfolding ring_of ring_sizes sum
ring-past = refl

-- ---- rings of different sizes

-- a triangle from its lowest corner
abbrev triangle : ℤ → ℤ → ℕ → List ℤ
triangle x y side = x ∷ y ∷ (x +ℤ pos side) ∷ y ∷ (x +ℤ pos side) ∷ (y +ℤ pos side) ∷ x ∷ y ∷ []

-- the outer ring has the first vertices: an island of five behind an outer ring of four, and the other way round
outer-first : (areas_of 9 (5 ∷ []) (triangle (pos 0) (pos 0) 10 ++ square (pos 4) (pos 1) 2) ≡ Ok (both_areas (pos 100) (pos 8)))
    × (areas_of 9 (4 ∷ []) (square (pos 0) (pos 0) 10 ++ triangle (pos 4) (pos 1) 2) ≡ Ok (both_areas (pos 200) (pos 4)))
unfolding computed
outer-first = (refl, refl)

-- two islands, in the order of their counts
two-islands : areas_of 13 (5 ∷ 4 ∷ []) (triangle (pos 0) (pos 0) 10 ++ square (pos 4) (pos 1) 2 ++ triangle (pos 7) (pos 1) 3) ≡ Ok (both_areas (pos 100) (pos 17))
unfolding computed
two-islands = refl

-- the outer ring or the second island is too wide
wide-ring : (areas_of 9 (5 ∷ []) (triangle (pos 0) (pos 0) 20000001 ++ square (pos 4) (pos 1) 2) ≡ Err Wide)
    × (areas_of 13 (5 ∷ 4 ∷ []) (triangle (pos 0) (pos 0) 10 ++ square (pos 4) (pos 1) 2 ++ triangle (pos 7) (pos 1) 20000001) ≡ Err Wide)
unfolding computed
wide-ring = (refl, refl)

-- no island
no-island : areas_of 5 [] (square (pos 0) (pos 0) 10) ≡ Ok (both_areas (pos 200) (pos 0))
unfolding computed
no-island = refl
