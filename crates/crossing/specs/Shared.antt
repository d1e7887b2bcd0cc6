-- A point that two edges share, in exact fractions, for the laws that the document's tests say what it means by sharing a point.
use Rattle.std.specs.Prelude.{◌≡◌, ℕ, ◌+◌, ◌<◌, pos, ◌+ℤ◌, ◌*ℤ◌}
use Rattle.crossing.specs.declared.Point.{Point}

-- the point of AB with the fractions u / (u + v) and v / (u + v) of A and B is the point of CD with the fractions p / (p + q) and q / (p + q)
pub record Shared (a b c d : Point) : Type 0 where
  pub u : ℕ
  pub v : ℕ
  pub p : ℕ
  pub q : ℕ
  pub some : 0 < u + v
  pub weights : u + v ≡ p + q
  pub same-x : pos u *ℤ a.x +ℤ pos v *ℤ b.x ≡ pos p *ℤ c.x +ℤ pos q *ℤ d.x
  pub same-y : pos u *ℤ a.y +ℤ pos v *ℤ b.y ≡ pos p *ℤ c.y +ℤ pos q *ℤ d.y

-- every point that the neighbours AB and BC share is B
abbrev pub OnlyAt : Point → Point → Point → Type 0
OnlyAt a b c =
    (s : Shared a b b c) →
    (pos s.u *ℤ a.x +ℤ pos s.v *ℤ b.x ≡ pos (s.u + s.v) *ℤ b.x) × (pos s.u *ℤ a.y +ℤ pos s.v *ℤ b.y ≡ pos (s.u + s.v) *ℤ b.y)

-- a point that the neighbours AB and BC share, and that is not B: A has a part in it, and A is not B
pub record SharedElsewhere (a b c : Point) : Type 0 where
  pub point : Shared a b b c
  pub part : 0 < point.u
  pub apart : a.x ≡ b.x → a.y ≡ b.y → ⊥
