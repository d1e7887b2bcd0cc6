-- Boxes round blocks of a ring's edges, by which the search passes over pairs of edges. Assumes nothing: these are definitions.
use Rattle.std.specs.Prelude.{Bool, true, false, ◌||◌, List, ◌≡◌, ℕ, ◌+◌, ◌*◌, ◌≤◌, ◌<◌, length, get_or, ℤ, pos}
use Rattle.std.specs.Int.Signed.{lt_z, le_z}
use Rattle.laws.specs.Whole.{low_z, high_z}
use Rattle.plane.specs.Rings.{all_near}
use Rattle.crossing.specs.declared.Point.{Point}
use Rattle.crossing.specs.Edges.{point_at, spans-overlap, edges-meet}

-- ---- edges that are passed over

-- a and b are the ends of an edge of a ring, which the table holds and which is not too wide
pub record EdgeOf (ps : List ℤ) (from edges : ℕ) (a b : Point) : Type 0 where
  pub place : ℕ
  pub among : place < edges
  pub held : 2 * (from + (edges + 1)) ≤ length ps
  pub narrow : all_near ps from (edges + 1) ≡ true
  pub start : a ≡ point_at ps (from + place)
  pub end : b ≡ point_at ps (from + (place + 1))

-- the edges from j on, before r, fail a test, and r is not past `stop`
pub record Skip (p : ℕ → Bool) (j stop r : ℕ) : Type 0 where
  pub on : j ≤ r
  pub inside : r ≤ stop
  pub none : (k : ℕ) → k < r → j ≤ k → p k ≡ false

-- the edge from a to b and a ring's edge k, which are no neighbours, share a point
abbrev pub meets_at : List ℤ → ℕ → Point → Point → ℕ → Bool
meets_at ps from a b k = edges-meet a b (point_at ps (from + k)) (point_at ps (from + (k + 1)))

-- vertex v's x along axis 0, its y along axis 1
abbrev pub along : List ℤ → ℕ → ℕ → ℤ
along ps axis v = get_or ps (2 * v + axis) (pos 0)

-- along an axis, the span from a to b and that of a ring's edge k share a number
abbrev pub span-meets : List ℤ → ℕ → ℕ → ℤ → ℤ → ℕ → Bool
span-meets ps from axis a b k = spans-overlap a b (along ps axis (from + k)) (along ps axis (from + (k + 1)))

-- ---- bounds

-- of the numbers at the places `first` to `last` none is below z, or none above
pub record Floor (f : ℕ → ℤ) (first last : ℕ) (z : ℤ) : Type 0 where
  pub under : (v : ℕ) → first ≤ v → v ≤ last → le_z z (f v) ≡ true

pub record Ceiling (f : ℕ → ℤ) (first last : ℕ) (z : ℤ) : Type 0 where
  pub over : (v : ℕ) → first ≤ v → v ≤ last → le_z (f v) z ≡ true

-- the two numbers at a place of a table bound a ring's vertices from `first` to `last`, along an axis
pub record Ranged (ps : List ℤ) (from axis first last : ℕ) (qs : List ℤ) (at : ℕ) : Type 0 where
  pub room : at + 1 < length qs
  pub low : Floor (λ v. along ps axis (from + v)) first last (get_or qs at (pos 0))
  pub high : Ceiling (λ v. along ps axis (from + v)) first last (get_or qs (at + 1) (pos 0))

-- the span from a to b lies wholly above the bounds, or below them
unfoldable pub beyond : ℤ → ℤ → ℤ → ℤ → Bool
beyond low high a b = lt_z high (low_z a b) || lt_z (high_z a b) low

-- ---- blocks

-- the boxes that there is room for
abbrev pub box-most : ℕ
box-most = 24

-- a number of edges for a block: so many edges are not more blocks than there are boxes
pub record BlockLength (edges n : ℕ) : Type 0 where
  pub some : 0 < n
  pub enough : edges ≤ box-most * n
  pub small : n ≤ edges + 8

-- r is the lower of where a block ends and of `stop`
pub record BlockEnd (first n stop r : ℕ) : Type 0 where
  pub in_block : r ≤ first + n
  pub inside : r ≤ stop
  pub reaches : (v : ℕ) → v ≤ first + n → v ≤ stop → v ≤ r

-- four numbers of a table are a box round block k, as far as the ring goes
pub record Boxed (ps : List ℤ) (from edges n : ℕ) (qs : List ℤ) (k : ℕ) : Type 0 where
  pub wide : (last : ℕ) → last ≤ k * n + n → last ≤ edges → Ranged ps from 0 (k * n) last qs (4 * k)
  pub high : (last : ℕ) → last ≤ k * n + n → last ≤ edges → Ranged ps from 1 (k * n) last qs (4 * k + 2)

-- there is one round each block of the ring
pub record Boxes (ps : List ℤ) (from edges n : ℕ) (qs : List ℤ) : Type 0 where
  pub each : (k : ℕ) → k * n < edges → Boxed ps from edges n qs k

-- box k lies beyond one side of the box of the edge from a to b
unfoldable pub box-apart : List ℤ → ℕ → Point → Point → Bool
box-apart qs k a b =
    beyond (get_or qs (4 * k) (pos 0)) (get_or qs (4 * k + 1) (pos 0)) a.x b.x ||
    beyond (get_or qs (4 * k + 2) (pos 0)) (get_or qs (4 * k + 2 + 1) (pos 0)) a.y b.y

-- a table of the same length, as it was before a place
pub record Kept (qs rs : List ℤ) (at : ℕ) : Type 0 where
  pub same_length : length rs ≡ length qs
  pub before : (i : ℕ) → i < at → get_or rs i (pos 0) ≡ get_or qs i (pos 0)
