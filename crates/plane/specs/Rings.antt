-- Rings in a table of points: which are held, and which keep near their first vertex (document 01, "Areas", refusal 17).
use Rattle.std.specs.Prelude.{Bool, true, ◌&&◌, List, ℕ, zero, suc, ◌+◌, ◌*◌, leb, length, get_or, ℤ, pos, nat_abs, ◌-ℤ◌}

-- the most vertices that a count record can give, so the most of a ring
abbrev pub most : ℕ
most = 9999

-- how far a vertex may lie from its ring's first, in millimetres
abbrev pub reach : ℕ
reach = 20000000

-- the coordinates of vertex v
abbrev pub x-at : List ℤ → ℕ → ℤ
x-at ps v = get_or ps (2 * v) (pos 0)

abbrev pub y-at : List ℤ → ℕ → ℤ
y-at ps v = get_or ps (2 * v + 1) (pos 0)

-- a table of so many numbers holds a ring of n vertices from vertex `from` on
unfoldable pub held : ℕ → ℕ → ℕ → Bool
held numbers from n = leb 1 n && (leb n most && leb (2 * (from + n)) numbers)

-- b is not more than 20,000,000 mm from a
unfoldable pub near : ℤ → ℤ → Bool
near a b = leb (nat_abs (b -ℤ a)) reach

-- vertex k of the ring is near its first, in x and in y
unfoldable pub near_first : List ℤ → ℕ → ℕ → Bool
near_first ps from k = near (x-at ps from) (x-at ps (from + k)) && near (y-at ps from) (y-at ps (from + k))

-- so are its first n vertices
unfoldable pub all_near : List ℤ → ℕ → ℕ → Bool
all_near ps from zero = true
all_near ps from (suc n) = all_near ps from n && near_first ps from n

-- the ring is held and no vertex is too far from its first: where the second fails it is refused 17
unfoldable pub narrow : List ℤ → ℕ → ℕ → Bool
narrow ps from n = held (length ps) from n && all_near ps from n
