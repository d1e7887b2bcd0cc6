-- Marked examples of document 01, by computation, and rings where the coordinates are large.
use Rattle.std.specs.Prelude.{ℕ, ◌≡◌, refl, true, false, List, [], ◌∷◌, ℤ, pos, negsuc, Result, Ok, Err}
use Rattle.plane.specs.declared.NoArea.{NoArea}
use Rattle.plane.specs.declared.NoArea.TheVariants.{Wide, Missing}
use Rattle.plane.specs.Rings.{held, near, near_first, all_near, narrow}
use Rattle.plane.specs.Areas.{east, north, edge-term, signed-sum, area_of, area-told}

-- `area_of` with every definition opened, so that it computes
unfoldable pub computed : List ℤ → ℕ → ℕ → Result ℤ NoArea
unfolding area_of narrow held near near_first all_near signed-sum edge-term east north
computed ps from n = area_of ps from n

bowtie : List ℤ
bowtie = pos 0 ∷ pos 0 ∷ pos 10 ∷ pos 10 ∷ pos 10 ∷ pos 0 ∷ pos 0 ∷ pos 10 ∷ pos 0 ∷ pos 0 ∷ []

-- (i)
bowtie-area : area_of bowtie 0 5 ≡ Ok (pos 0)
unfolding computed bowtie
bowtie-area = refl

-- a square of side 10 and, after it, its island of side 2, which turns the other way
square : List ℤ
square =
    pos 0 ∷ pos 0 ∷ pos 10 ∷ pos 0 ∷ pos 10 ∷ pos 10 ∷ pos 0 ∷ pos 10 ∷ pos 0 ∷ pos 0 ∷
    pos 4 ∷ pos 4 ∷ pos 4 ∷ pos 6 ∷ pos 6 ∷ pos 6 ∷ pos 6 ∷ pos 4 ∷ pos 4 ∷ pos 4 ∷ []

-- (j)
square-area : area_of square 0 5 ≡ Ok (pos 200)
unfolding computed square
square-area = refl

island-area : area_of square 5 5 ≡ Ok (pos 8)
unfolding computed square
island-area = refl

-- a vertex more than the table has
square-missing : area_of square 6 5 ≡ Err Missing
unfolding computed square
square-missing = refl

-- near northing 5,000,000,000 mm, where x1*y2 itself would not fit
northern : List ℤ
northern =
    negsuc 2499999999 ∷ pos 5000000000 ∷ negsuc 2479999999 ∷ pos 5000000000 ∷ negsuc 2479999999 ∷ pos 5020000000 ∷
    negsuc 2499999999 ∷ pos 5020000000 ∷ negsuc 2499999999 ∷ pos 5000000000 ∷ []

northern-area : area_of northern 0 5 ≡ Ok (pos 800000000000000)
unfolding computed northern
northern-area = refl

-- 20,000,000 mm pass, one more does not
wide : List ℤ
wide = pos 5 ∷ pos 5 ∷ pos 5 ∷ pos 20000006 ∷ pos 5 ∷ pos 5 ∷ []

wide-refused : area_of wide 0 3 ≡ Err Wide
unfolding computed wide
wide-refused = refl

wide-told : area-told (area_of wide 0 3) ≡ (17, [])
unfolding computed wide
wide-told = refl

-- a ring from (5, 5) over two vertices
abbrev through : ℤ → ℤ → ℤ → ℤ → List ℤ
through a b c d = pos 5 ∷ pos 5 ∷ a ∷ b ∷ c ∷ d ∷ pos 5 ∷ pos 5 ∷ []

-- exactly 20,000,000 mm, in x and in y, either way
reach-passes : (area_of (through (pos 20000005) (pos 5) (pos 5) (pos 20000005)) 0 4 ≡ Ok (pos 400000000000000))
    × (area_of (through (negsuc 19999994) (pos 5) (pos 5) (negsuc 19999994)) 0 4 ≡ Ok (pos 400000000000000))
unfolding computed
reach-passes = (refl, refl)

-- 20,000,001 mm: by the second vertex or by the third, in x or in y, either way
reach-refused : (area_of (through (pos 20000006) (pos 5) (pos 5) (pos 9)) 0 4 ≡ Err Wide) × (area_of (through (negsuc 19999995) (pos 5) (pos 5) (pos 9)) 0 4 ≡ Err Wide)
    × (area_of (through (pos 9) (pos 5) (pos 5) (pos 20000006)) 0 4 ≡ Err Wide) × (area_of (through (pos 9) (pos 5) (pos 5) (negsuc 19999995)) 0 4 ≡ Err Wide)
unfolding computed
reach-refused = (refl, refl, refl, refl)

-- the distance is from the ring's own first vertex, not from the table's, and two other vertices may lie further apart
reach-own : (area_of (pos 0 ∷ pos 0 ∷ through (pos 20000005) (pos 5) (pos 5) (pos 9)) 1 4 ≡ Ok (pos 80000000))
    × (area_of (through (pos 20000005) (pos 5) (negsuc 19999994) (pos 9)) 0 4 ≡ Ok (pos 80000000))
unfolding computed
reach-own = (refl, refl)

-- no vertices, and more than a count record can give
no-ring : (area_of square 0 0 ≡ Err Missing) × (area_of square 0 10000 ≡ Err Missing)
unfolding computed square
no-ring = (refl, refl)

-- each coordinate is taken from the ring's own first vertex and every edge counts: a run that does not close shows it
open-area : area_of (pos 3 ∷ pos 3 ∷ pos 5 ∷ pos 5 ∷ pos 10 ∷ pos 5 ∷ pos 10 ∷ pos 10 ∷ []) 1 3 ≡ Ok (pos 25)
unfolding computed
open-area = refl

-- as many vertices as a count record can give, and one more
held-most : (held 20000 0 9999 ≡ true) × (held 20000 0 10000 ≡ false)
unfolding computed
held-most = (refl, refl)
