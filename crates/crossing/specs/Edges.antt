-- Which pairs of edges share too much (document 01, "Ring check"), by cross products, inner products and boxes.
use Rattle.std.specs.Prelude.{Bool, not, ◌&&◌, ◌||◌, List, ℕ, ◌+◌, ℤ, pos, ◌+ℤ◌, ◌-ℤ◌, ◌*ℤ◌}
use Rattle.std.specs.Int.Signed.{lt_z, le_z}
use Rattle.laws.specs.Whole.{Within, eq_z, low_z, high_z}
use Rattle.plane.specs.Rings.{reach, x-at, y-at}
use Rattle.crossing.specs.declared.Point.{Point}

abbrev pub point_at : List ℤ → ℕ → Point
point_at ps v = record { x = x-at ps v; y = y-at ps v }

-- the cross product of b - a and c - a: above 0 where c is left of the line from a to b, below 0 where it is right of it, 0 on the line
unfoldable pub side : Point → Point → Point → ℤ
side a b c = (b.x -ℤ a.x) *ℤ (c.y -ℤ a.y) -ℤ (c.x -ℤ a.x) *ℤ (b.y -ℤ a.y)

-- (A-B).(C-B)
unfoldable pub dot : Point → Point → Point → ℤ
dot a b c = (a.x -ℤ b.x) *ℤ (c.x -ℤ b.x) +ℤ (a.y -ℤ b.y) *ℤ (c.y -ℤ b.y)

-- two vertices that are near their ring's first are at most so far apart, in x and in y
abbrev pub span : ℕ
span = reach + reach

pub record Close (a b : Point) : Type 0 where
  pub wide : Within span (b.x -ℤ a.x)
  pub high : Within span (b.y -ℤ a.y)

-- the edge from a to b has equal ends
unfoldable pub equal-ends : Point → Point → Bool
equal-ends a b = eq_z a.x b.x && eq_z a.y b.y

-- "neighbours AB, BC overlap exactly if their cross product is 0 and (A-B).(C-B) is above 0"
unfoldable pub neighbours-overlap : Point → Point → Point → Bool
neighbours-overlap a b c = eq_z (side b a c) (pos 0) && lt_z (pos 0) (dot a b c)

-- both above 0, or both below
unfoldable pub one_side : ℤ → ℤ → Bool
one_side s t = (lt_z (pos 0) s && lt_z (pos 0) t) || (lt_z s (pos 0) && lt_z t (pos 0))

-- c and d lie strictly on one side of the line through a and b
unfoldable pub beside-line : Point → Point → Point → Point → Bool
beside-line a b c d = one_side (side a b c) (side a b d)

-- the spans from a to b and from c to d, ends counted, share a number
unfoldable pub spans-overlap : ℤ → ℤ → ℤ → ℤ → Bool
spans-overlap a b c d = le_z (low_z a b) (high_z c d) && le_z (low_z c d) (high_z a b)

-- the boxes of the edges AB and CD, borders counted, overlap
unfoldable pub boxes-overlap : Point → Point → Point → Point → Bool
boxes-overlap a b c d = spans-overlap a.x b.x c.x d.x && spans-overlap a.y b.y c.y d.y

-- "other edges meet exactly if neither has both ends strictly on one side of the other's line, and their boxes, borders counted, overlap"
unfoldable pub edges-meet : Point → Point → Point → Point → Bool
edges-meet a b c d = not (beside-line a b c d) && (not (beside-line c d a b) && boxes-overlap a b c d)
