-- A whole number by its two parts: z is P z less N z, and one of the two is 0. So each linear fact of whole numbers is one of the parts, which omega reads. Assumes nothing.
use mathlib.Core.Path.{◌≡◌, refl, ap}
use mathlib.Core.Bool.{Bool, true, false, cond, not}
use Prim.Native.Nat.{ℕ, zero, suc, ◌+◌, ◌-◌, ◌^◌, ◌≤◌, ◌<◌, min}
use mir.Syntax.{w64}
use mir.Val.{SFits}
use native.Mathlib.Omega.{arith}
use lib.Dec.{ltb}
use lib.IntN.{ℤ, pos, negsuc, neg_ℤ, sub_ℕ, nat_abs, ◌+ℤ◌, ◌-ℤ◌}
use lib.Signed.{lt_z, le_z}
use borrow.Author.Tests.{lt-ltb, le-ltb, lt-leb, le-leb, ltb-true, ltb-false, leb-true, leb-false}

abbrev pub P : ℤ → ℕ
P (pos n) = n
P (negsuc n) = 0

abbrev pub N : ℤ → ℕ
N (pos n) = 0
N (negsuc n) = suc n

-- one of the two parts is 0
pub one-part : (z : ℤ) → min (P z) (N z) ≡ 0
one-part (pos n) = omega arith
one-part (negsuc n) = omega arith

pub abs-parts : (z : ℤ) → nat_abs z ≡ P z + N z
abs-parts (pos n) = omega arith
abs-parts (negsuc n) = omega arith

pub neg-P : (z : ℤ) → P (neg_ℤ z) ≡ N z
neg-P (pos zero) = refl
neg-P (pos (suc n)) = refl
neg-P (negsuc n) = refl

pub neg-N : (z : ℤ) → N (neg_ℤ z) ≡ P z
neg-N (pos zero) = refl
neg-N (pos (suc n)) = refl
neg-N (negsuc n) = refl

-- a difference of naturals
sub-parts' : (a b : ℕ) (t : Bool) → ltb a b ≡ t → P (cond t (negsuc (b - suc a)) (pos (a - b))) + b ≡ a + N (cond t (negsuc (b - suc a)) (pos (a - b)))
sub-parts' a b true e = omega (arith, ltb-true a b e)
sub-parts' a b false e = omega (arith, ltb-false a b e)

pub sub_parts : (a b : ℕ) → P (sub_ℕ a b) + b ≡ a + N (sub_ℕ a b)
sub_parts a b = sub-parts' a b (ltb a b) refl

pub add_parts : (a b : ℤ) → P (a +ℤ b) + (N a + N b) ≡ (P a + P b) + N (a +ℤ b)
add_parts (pos a) (pos b) = omega arith
add_parts (pos a) (negsuc b) = omega (arith, sub_parts a (suc b))
add_parts (negsuc a) (pos b) = omega (arith, sub_parts b (suc a))
add_parts (negsuc a) (negsuc b) = omega arith

pub sub-parts-ℤ : (a b : ℤ) → P (a -ℤ b) + (N a + P b) ≡ (P a + N b) + N (a -ℤ b)
sub-parts-ℤ a b = omega (arith, add_parts a (neg_ℤ b), neg-P b, neg-N b)

-- two integers of equal parts are equal
pub eq-parts : (a b : ℤ) → P a + N b ≡ P b + N a → a ≡ b
eq-parts (pos a) (pos b) h = let e : a ≡ b = omega arith in ap pos e
eq-parts (pos a) (negsuc b) h = let e : ⊥ = omega arith in absurd e
eq-parts (negsuc a) (pos b) h = let e : ⊥ = omega arith in absurd e
eq-parts (negsuc a) (negsuc b) h = let e : a ≡ b = omega arith in ap negsuc e

-- the tests, to facts on the parts and back
pub lt_yes : (a b : ℤ) → lt_z a b ≡ true → P a + N b < P b + N a
lt_yes (pos a) (pos b) e = omega (arith, ltb-true a b e)
lt_yes (pos a) (negsuc b) e = let z : ◌≡◌ {A = ℕ} 0 1 = cc in omega arith
lt_yes (negsuc a) (pos b) e = omega arith
lt_yes (negsuc a) (negsuc b) e = omega (arith, ltb-true b a e)

pub lt_no : (a b : ℤ) → lt_z a b ≡ false → P b + N a ≤ P a + N b
lt_no (pos a) (pos b) e = omega (arith, ltb-false a b e)
lt_no (pos a) (negsuc b) e = omega arith
lt_no (negsuc a) (pos b) e = let z : ◌≡◌ {A = ℕ} 0 1 = cc in omega arith
lt_no (negsuc a) (negsuc b) e = omega (arith, ltb-false b a e)

pub le_yes : (a b : ℤ) → le_z a b ≡ true → P a + N b ≤ P b + N a
le_yes (pos a) (pos b) e = omega (arith, leb-true a b e)
le_yes (pos a) (negsuc b) e = let z : ◌≡◌ {A = ℕ} 0 1 = cc in omega arith
le_yes (negsuc a) (pos b) e = omega arith
le_yes (negsuc a) (negsuc b) e = omega (arith, leb-true b a e)

pub le-no : (a b : ℤ) → le_z a b ≡ false → P b + N a < P a + N b
le-no (pos a) (pos b) e = omega (arith, leb-false a b e)
le-no (pos a) (negsuc b) e = omega arith
le-no (negsuc a) (pos b) e = let z : ◌≡◌ {A = ℕ} 0 1 = cc in omega arith
le-no (negsuc a) (negsuc b) e = omega (arith, leb-false b a e)

-- what omega is handed: of a number, of a sum, of a difference
pub num : (z : ℤ) → (min (P z) (N z) ≡ 0) × (nat_abs z ≡ P z + N z)
num z = (one-part z, abs-parts z)

pub sum : (a b : ℤ) → (P (a +ℤ b) + (N a + N b) ≡ (P a + P b) + N (a +ℤ b)) × (min (P (a +ℤ b)) (N (a +ℤ b)) ≡ 0) × (nat_abs (a +ℤ b) ≡ P (a +ℤ b) + N (a +ℤ b))
sum a b = (add_parts a b, one-part (a +ℤ b), abs-parts (a +ℤ b))

pub diff : (a b : ℤ) → (P (a -ℤ b) + (N a + P b) ≡ (P a + N b) + N (a -ℤ b)) × (min (P (a -ℤ b)) (N (a -ℤ b)) ≡ 0) × (nat_abs (a -ℤ b) ≡ P (a -ℤ b) + N (a -ℤ b))
diff a b = (sub-parts-ℤ a b, one-part (a -ℤ b), abs-parts (a -ℤ b))

-- what fits 64 bits, in parts
pub parts-fit : (z : ℤ) → P z < 2 ^ 63 → N z ≤ 2 ^ 63 → SFits w64 z
parts-fit (pos n) h k = record { sfits = h }
parts-fit (negsuc n) h k = record { sfits = k }

pub fit_parts : (z : ℤ) → SFits w64 z → (P z < 2 ^ 63) × (N z ≤ 2 ^ 63)
fit_parts (pos n) f = let h : n < 2 ^ 63 = f.sfits in (omega arith, omega arith)
fit_parts (negsuc n) f = let h : n < 2 ^ 63 = f.sfits in (omega arith, omega arith)

-- the tests from facts on the parts
pub le-true : (a b : ℤ) → P a + N b ≤ P b + N a → le_z a b ≡ true
le-true (pos a) (pos b) h = le-leb a b (omega arith)
le-true (pos a) (negsuc b) h = let e : ⊥ = omega arith in absurd e
le-true (negsuc a) (pos b) h = refl
le-true (negsuc a) (negsuc b) h = le-leb b a (omega arith)

pub lt-true : (a b : ℤ) → P a + N b < P b + N a → lt_z a b ≡ true
lt-true (pos a) (pos b) h = lt-ltb a b (omega arith)
lt-true (pos a) (negsuc b) h = let e : ⊥ = omega arith in absurd e
lt-true (negsuc a) (pos b) h = refl
lt-true (negsuc a) (negsuc b) h = lt-ltb b a (omega arith)

pub lt-false : (a b : ℤ) → P b + N a ≤ P a + N b → lt_z a b ≡ false
lt-false (pos a) (pos b) h = le-ltb a b (omega arith)
lt-false (pos a) (negsuc b) h = refl
lt-false (negsuc a) (pos b) h = let e : ⊥ = omega arith in absurd e
lt-false (negsuc a) (negsuc b) h = le-ltb b a (omega arith)

-- every fact of order among the hypotheses, for omega's list: `omega (arith, ints, ..)`
pub ruleset ints = (lt_yes, lt_no, le_yes, le-no)

-- the absolute value, by the sign
pub abs-below : (z : ℤ) → lt_z z (pos 0) ≡ true → pos 0 -ℤ z ≡ pos (nat_abs z)
abs-below z e = eq-parts (pos 0 -ℤ z) (pos (nat_abs z)) (omega (arith, ints, num z, diff (pos 0) z))

pub abs-above : (z : ℤ) → lt_z z (pos 0) ≡ false → z ≡ pos (nat_abs z)
abs-above z e = eq-parts z (pos (nat_abs z)) (omega (arith, ints, num z))

-- the two orders are each other's opposite
pub le_not_lt : (a b : ℤ) (t : Bool) → lt_z b a ≡ t → le_z a b ≡ not t
le_not_lt (pos a) (pos b) true e = lt-leb a b (ltb-true b a e)
le_not_lt (pos a) (pos b) false e = le-leb a b (ltb-false b a e)
le_not_lt (pos a) (negsuc b) t e = ap not e
le_not_lt (negsuc a) (pos b) t e = ap not e
le_not_lt (negsuc a) (negsuc b) true e = lt-leb b a (ltb-true a b e)
le_not_lt (negsuc a) (negsuc b) false e = le-leb b a (ltb-false a b e)
