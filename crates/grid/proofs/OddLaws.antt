-- Odd and even numbers: a sum is odd where one of the two is. Assumes nothing.
use mathlib.Core.Path.{◌≡◌, refl, ◌∙◌, ap}
use mathlib.Core.Bool.{Bool, true, false, not}
use Prim.Native.Nat.{ℕ, zero, suc, ◌+◌}
use native.Mathlib.Nat.{zero-add, suc-add}
use Rattle.grid.specs.Inside.{one_if, is_odd}
use Rattle.grid.specs.Words.{differs}

not-differs : (a b : Bool) → not (differs a b) ≡ differs (not a) b
not-differs true true = refl
not-differs true false = refl
not-differs false b = refl

pub odd-add : (a b : ℕ) → is_odd (a + b) ≡ differs (is_odd a) (is_odd b)
odd-add zero b = rw (zero-add b)
odd-add (suc a) b = rw (suc-add a b) (ap not (odd-add a b) ∙ not-differs (is_odd a) (is_odd b))

pub odd-one : (b : Bool) → is_odd (one_if b) ≡ b
odd-one true = refl
odd-one false = refl
