-- Whole numbers of either sign: tests that compute, beside `lt_z` and `le_z`, and how far a number lies from 0. Assumes nothing: these are definitions.
use Rattle.std.specs.Prelude.{Bool, false, cond, ℕ, ◌≤◌, eqb, ℤ, pos, negsuc, nat_abs}
use Rattle.std.specs.Int.Signed.{lt_z}

abbrev pub eq_z : ℤ → ℤ → Bool
eq_z (pos a) (pos b) = eqb a b
eq_z (pos a) (negsuc b) = false
eq_z (negsuc a) (pos b) = false
eq_z (negsuc a) (negsuc b) = eqb a b

-- the lower of two, and the higher
abbrev pub low_z : ℤ → ℤ → ℤ
low_z a b = cond (lt_z a b) a b

abbrev pub high_z : ℤ → ℤ → ℤ
high_z a b = cond (lt_z a b) b a

-- z is at most n from 0
pub record Within (n : ℕ) (z : ℤ) : Type 0 where
  pub within : nat_abs z ≤ n
