-- Which centres lie inside a ring (document 02, T-03): "count edges with one end north of the centre and the other not, whose crossing lies strictly
-- east of it", all in doubled coordinates "so centres are whole". Assumes nothing: these are definitions.
use Rattle.std.specs.Prelude.{Bool, true, false, cond, not, ◌&&◌, List, ℕ, zero, suc, ◌+◌, ◌-◌, ◌*◌, ℤ, pos, ◌+ℤ◌, ◌-ℤ◌, ◌*ℤ◌}
use Rattle.std.specs.Int.Signed.{lt_z, le_z}
use Rattle.plane.specs.Rings.{x-at, y-at}

abbrev pub twice : ℤ → ℤ
twice z = z +ℤ z

-- ---- the centre of the cell in row r, column c of a grid of cells of side s, its north-west corner at (cx, cy)

-- doubled, cell k of a row or of a column has its centre so far from the corner
abbrev pub centre_at : ℕ → ℕ → ℕ
centre_at s k = (2 * k + 1) * s

abbrev pub centre-x : ℤ → ℕ → ℕ → ℤ
centre-x cx s c = twice cx +ℤ pos (centre_at s c)

abbrev pub centre-y : ℤ → ℕ → ℕ → ℤ
centre-y cy s r = twice cy -ℤ pos (centre_at s r)

-- ---- one edge

-- "one end north of the centre and the other not": ny lies north of height y, sy does not
unfoldable pub straddles : ℤ → ℤ → ℤ → Bool
straddles ny sy y = lt_z y ny && le_z sy y

-- the edge between them crosses that height at (nx (y - sy) + sx (ny - y)) / (ny - sy): "strictly east" of x
unfoldable pub crosses-east : ℤ → ℤ → ℤ → ℤ → ℤ → ℤ → Bool
crosses-east nx ny sx sy x y = lt_z (x *ℤ (ny -ℤ sy)) (nx *ℤ (y -ℤ sy) +ℤ sx *ℤ (ny -ℤ y))

-- the edge between (ax, ay) and (bx, by) counts for the centre (x, y)
unfoldable pub counts : ℤ → ℤ → ℤ → ℤ → ℤ → ℤ → Bool
counts ax ay bx by x y =
    cond (straddles ay by y) (crosses-east ax ay bx by x y) (cond (straddles by ay y) (crosses-east bx by ax ay x y) false)

-- the edge from vertex v of the table to the next
unfoldable pub edge-counts : List ℤ → ℕ → ℤ → ℤ → Bool
edge-counts ps v x y = counts (twice (x-at ps v)) (twice (y-at ps v)) (twice (x-at ps (v + 1))) (twice (y-at ps (v + 1))) x y

-- ---- one ring

abbrev pub one_if : Bool → ℕ
one_if true = 1
one_if false = 0

-- how many of the first e edges count of the ring that begins at vertex `from`
unfoldable pub crossings : List ℤ → ℕ → ℕ → ℤ → ℤ → ℕ
crossings ps from zero x y = 0
crossings ps from (suc e) x y = crossings ps from e x y + one_if (edge-counts ps (from + e) x y)

abbrev pub is_odd : ℕ → Bool
is_odd zero = false
is_odd (suc n) = not (is_odd n)

-- "by the even-odd rule": a ring of n vertices has n - 1 edges
unfoldable pub in-ring : List ℤ → ℕ → ℕ → ℤ → ℤ → Bool
in-ring ps from n x y = is_odd (crossings ps from (n - 1) x y)

-- the centre of the cell in row r, column c lies inside the ring
unfoldable pub ring-covers : List ℤ → ℕ → ℕ → ℤ → ℤ → ℕ → ℕ → ℕ → Bool
ring-covers ps from n cx cy s r c = in-ring ps from n (centre-x cx s c) (centre-y cy s r)
