-- The same ring in two tables of points, for the laws that it gives the same cells (document 02, T-03). Assumes nothing: these are definitions.
use Rattle.std.specs.Prelude.{◌≡◌, List, ℕ, ◌+◌, ◌-◌, ◌≤◌, ◌<◌, ℤ, ◌+ℤ◌}
use Rattle.plane.specs.Rings.{x-at, y-at}

-- vertex v of the one table is vertex w of the other
pub record SameVertex (ps : List ℤ) (v : ℕ) (qs : List ℤ) (w : ℕ) : Type 0 where
  pub same-x : x-at ps v ≡ x-at qs w
  pub same-y : y-at ps v ≡ y-at qs w

-- a ring of e edges in ps begun at its vertex j: in qs first the vertices from j to the last, then those from the first to j
pub record BegunAt (ps : List ℤ) (p : ℕ) (qs : List ℤ) (q e j : ℕ) : Type 0 where
  pub among : j ≤ e
  pub onward : (k : ℕ) → k ≤ e - j → SameVertex ps (p + j + k) qs (q + k)
  pub around : (k : ℕ) → k ≤ j → SameVertex ps (p + k) qs (q + (e - j) + k)

-- turned round: the last vertex first
abbrev pub TurnedRound : List ℤ → ℕ → List ℤ → ℕ → ℕ → Type 0
TurnedRound ps p qs q e = (k : ℕ) → k ≤ e → SameVertex ps (p + k) qs (q + (e - k))

-- n vertices from p on, each moved by (dx, dy), stand in qs from q on
pub record MovedVertex (dx dy : ℤ) (ps : List ℤ) (v : ℕ) (qs : List ℤ) (w : ℕ) : Type 0 where
  pub moved-x : x-at qs w ≡ x-at ps v +ℤ dx
  pub moved-y : y-at qs w ≡ y-at ps v +ℤ dy

abbrev pub MovedAt : ℤ → ℤ → List ℤ → ℕ → List ℤ → ℕ → ℕ → Type 0
MovedAt dx dy ps p qs q n = (k : ℕ) → k < n → MovedVertex dx dy ps (p + k) qs (q + k)
