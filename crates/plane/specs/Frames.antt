-- For a private contract: the least and the greatest of a ring's coordinates. Assumes nothing: these are definitions.
use Rattle.std.specs.Prelude.{◌≡◌, true, ℕ, ◌<◌, ℤ}
use Rattle.std.specs.Int.Signed.{le_z}

-- the least of the first n numbers, which stands at a place among them
pub record Least (f : ℕ → ℤ) (n : ℕ) (z : ℤ) : Type 0 where
  pub below_all : (k : ℕ) → k < n → le_z z (f k) ≡ true
  pub at_place : ℕ
  pub among : at_place < n
  pub reached : f at_place ≡ z

pub record Greatest (f : ℕ → ℤ) (n : ℕ) (z : ℤ) : Type 0 where
  pub above-all : (k : ℕ) → k < n → le_z (f k) z ≡ true
  pub at_place : ℕ
  pub among : at_place < n
  pub reached : f at_place ≡ z
