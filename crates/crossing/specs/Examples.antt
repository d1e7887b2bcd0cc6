-- Marked example (i) of document 01, by computation, a ring for each rule of the ring check, and edges with a point that they share.
use Rattle.std.specs.Prelude.{◌≡◌, refl, true, false, List, [], ◌∷◌, ℕ, ℤ, pos, negsuc, Option, None, Result, Ok, Err}
use Rattle.std.proofs.Common.{arith}
use Rattle.plane.specs.Rings.{held, near, near_first, all_near, narrow}
use Rattle.crossing.specs.declared.Point.{Point}
use Rattle.plane.specs.declared.NoArea.{NoArea}
use Rattle.plane.specs.declared.NoArea.TheVariants.{Wide, Missing}
use Rattle.crossing.specs.declared.FaultyPair.{FaultyPair}
use Rattle.crossing.specs.Edges.{edges-meet, boxes-overlap, beside-line, spans-overlap, one_side, neighbours-overlap, equal-ends, side, dot}
use Rattle.crossing.specs.Search.{fault_at, verdict_of, verdict-told, searched, first_edge, second-edge, least, faulty-pair}
use Rattle.crossing.specs.Shared.{Shared}

-- `verdict_of` with every definition opened, so that it computes
unfoldable pub computed : List ℤ → ℕ → ℕ → Result (Option FaultyPair) NoArea
unfolding verdict_of searched held narrow near near_first all_near first_edge second-edge least faulty-pair edges-meet boxes-overlap beside-line spans-overlap one_side neighbours-overlap equal-ends side dot
computed ps from n = verdict_of ps from n

bowtie : List ℤ
bowtie = pos 0 ∷ pos 0 ∷ pos 10 ∷ pos 10 ∷ pos 10 ∷ pos 0 ∷ pos 0 ∷ pos 10 ∷ pos 0 ∷ pos 0 ∷ []

-- (i)
bowtie-pair : verdict_of bowtie 0 5 ≡ Ok (fault_at 0 2)
unfolding computed bowtie
bowtie-pair = refl

bowtie-told : verdict-told (verdict_of bowtie 0 5) ≡ (0, 0 ∷ 2 ∷ [])
unfolding computed bowtie
bowtie-told = refl

square : List ℤ
square = pos 5000000000 ∷ negsuc 4 ∷ pos 5000000010 ∷ negsuc 4 ∷ pos 5000000010 ∷ pos 5 ∷ pos 5000000000 ∷ pos 5 ∷ pos 5000000000 ∷ negsuc 4 ∷ []

-- far from the origin
square-simple : verdict_of square 0 5 ≡ Ok None
unfolding computed square
square-simple = refl

triangle : List ℤ
triangle = pos 0 ∷ pos 0 ∷ pos 4 ∷ pos 0 ∷ pos 0 ∷ pos 3 ∷ pos 0 ∷ pos 0 ∷ []

-- three edges, all neighbours
triangle-simple : verdict_of triangle 0 4 ≡ Ok None
unfolding computed triangle
triangle-simple = refl

flat : List ℤ
flat = pos 0 ∷ pos 0 ∷ pos 4 ∷ pos 0 ∷ pos 9 ∷ pos 0 ∷ pos 0 ∷ pos 0 ∷ []

-- the first edge and the last are neighbours, and overlap
flat-pair : verdict_of flat 0 4 ≡ Ok (fault_at 0 2)
unfolding computed flat
flat-pair = refl

spike : List ℤ
spike = pos 0 ∷ pos 0 ∷ pos 9 ∷ pos 0 ∷ pos 4 ∷ pos 0 ∷ pos 4 ∷ pos 9 ∷ pos 0 ∷ pos 0 ∷ []

-- edge 1 runs back along edge 0
spike-pair : verdict_of spike 0 5 ≡ Ok (fault_at 0 1)
unfolding computed spike
spike-pair = refl

still : List ℤ
still = pos 0 ∷ pos 0 ∷ pos 9 ∷ pos 0 ∷ pos 9 ∷ pos 0 ∷ pos 0 ∷ pos 9 ∷ pos 0 ∷ pos 0 ∷ []

-- edge 1 has no length, and edges 0 and 2, which are no neighbours, share its point: (0, 2) comes before (1, 1)
still-pair : verdict_of still 0 5 ≡ Ok (fault_at 0 2)
unfolding computed still
still-pair = refl

start : List ℤ
start = pos 0 ∷ pos 0 ∷ pos 0 ∷ pos 0 ∷ pos 9 ∷ pos 0 ∷ pos 0 ∷ pos 9 ∷ pos 0 ∷ pos 0 ∷ []

-- edge 0 has no length, and is the pair of itself
start-pair : verdict_of start 0 5 ≡ Ok (fault_at 0 0)
unfolding computed start
start-pair = refl

wide : List ℤ
wide = pos 0 ∷ pos 0 ∷ pos 20000001 ∷ pos 0 ∷ pos 0 ∷ pos 9 ∷ pos 0 ∷ pos 0 ∷ []

-- refusal 17
wide-refused : verdict_of wide 0 4 ≡ Err Wide
unfolding computed wide
wide-refused = refl

wide-told : verdict-told (verdict_of wide 0 4) ≡ (17, [])
unfolding computed wide
wide-told = refl

touching : List ℤ
touching = pos 0 ∷ pos 0 ∷ pos 10 ∷ pos 0 ∷ pos 10 ∷ pos 10 ∷ pos 5 ∷ pos 0 ∷ pos 0 ∷ pos 10 ∷ pos 0 ∷ pos 0 ∷ []

-- edge 2 ends on edge 0, between its ends: their boxes touch, and an end on the line is on neither side of it
touching-pair : verdict_of touching 0 6 ≡ Ok (fault_at 0 2)
unfolding computed touching
touching-pair = refl

-- the same ring from its vertex 3: edge 0 begins on edge 2
touching-turned : verdict_of (pos 5 ∷ pos 0 ∷ pos 0 ∷ pos 10 ∷ pos 0 ∷ pos 0 ∷ pos 10 ∷ pos 0 ∷ pos 10 ∷ pos 10 ∷ pos 5 ∷ pos 0 ∷ []) 0 6 ≡ Ok (fault_at 0 2)
unfolding computed
touching-turned = refl

corner : List ℤ
corner = pos 0 ∷ pos 0 ∷ pos 4 ∷ pos 4 ∷ pos 8 ∷ pos 0 ∷ pos 8 ∷ pos 8 ∷ pos 4 ∷ pos 4 ∷ pos 0 ∷ pos 8 ∷ pos 0 ∷ pos 0 ∷ []

-- a vertex that is met again: boxes that share a corner only
corner-pair : verdict_of corner 0 7 ≡ Ok (fault_at 0 3)
unfolding computed corner
corner-pair = refl

gate : List ℤ
gate =
    pos 0 ∷ pos 0 ∷ pos 3 ∷ pos 0 ∷ pos 3 ∷ pos 5 ∷ pos 6 ∷ pos 5 ∷ pos 6 ∷ pos 0 ∷ pos 9 ∷ pos 0 ∷ pos 9 ∷ pos 9 ∷ pos 0 ∷ pos 9 ∷
    pos 0 ∷ pos 0 ∷ []

-- edges on one line, and an end on another edge's line, with no shared point: their boxes lie apart
gate-simple : verdict_of gate 0 9 ≡ Ok None
unfolding computed gate
gate-simple = refl

-- neighbours may go straight on
straight-simple : verdict_of (pos 0 ∷ pos 0 ∷ pos 4 ∷ pos 0 ∷ pos 9 ∷ pos 0 ∷ pos 9 ∷ pos 9 ∷ pos 0 ∷ pos 0 ∷ []) 0 5 ≡ Ok None
unfolding computed
straight-simple = refl

-- exactly 20,000,000 mm pass; a ring that the table does not hold
limits : (verdict_of (pos 0 ∷ pos 0 ∷ pos 20000000 ∷ pos 0 ∷ pos 0 ∷ pos 9 ∷ pos 0 ∷ pos 0 ∷ []) 0 4 ≡ Ok None) × (verdict_of triangle 1 4 ≡ Err Missing)
unfolding computed triangle
limits = (refl, refl)

-- ---- edges that meet, and a point that they share

point : ℕ → ℕ → Point
point x y = record { x = pos x; y = pos y }

-- the second edge starts in the middle of the first
touching-meet : edges-meet (point 0 0) (point 4 2) (point 2 1) (point 2 9) ≡ true
unfolding edges-meet boxes-overlap beside-line spans-overlap one_side side point
touching-meet = refl

touching-shared : Shared (point 0 0) (point 4 2) (point 2 1) (point 2 9)
unfolding point
touching-shared = record { u = 1; v = 1; p = 2; q = 0; some = omega arith; weights = refl; same-x = refl; same-y = refl }

-- in one line, from (4, 2) to (6, 3) in common; the point is (5, 5/2)
inline-meet : edges-meet (point 0 0) (point 6 3) (point 4 2) (point 10 5) ≡ true
unfolding edges-meet boxes-overlap beside-line spans-overlap one_side side point
inline-meet = refl

inline-shared : Shared (point 0 0) (point 6 3) (point 4 2) (point 10 5)
unfolding point
inline-shared = record { u = 1; v = 5; p = 5; q = 1; some = omega arith; weights = refl; same-x = refl; same-y = refl }

-- in one line and apart: only the boxes tell
inline-apart : edges-meet (point 0 0) (point 2 1) (point 4 2) (point 10 5) ≡ false
unfolding edges-meet boxes-overlap beside-line spans-overlap one_side side point
inline-apart = refl
