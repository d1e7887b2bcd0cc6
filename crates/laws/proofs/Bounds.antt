-- Bounds of sums, differences and products, by computation on numerals. Assumes nothing.
use mathlib.Core.Path.{◌≡◌, refl, sym, subst}
use Prim.Native.Nat.{ℕ, zero, suc, ◌+◌, ◌*◌, ◌≤◌, ◌<◌, ◌^◌}
use native.Mathlib.Nat.{le_trans, le_refl, lt_of_le_of_lt, mul-le-mul}
use native.Mathlib.Omega.{arith}
use lib.Dec.{T, leb, leb→le}
use lib.IntN.{ℤ, pos, negsuc, neg_ℤ, nat_abs, ◌+ℤ◌, ◌-ℤ◌, ◌*ℤ◌}
use lib.Signed.{mag}
use mir.Syntax.{w64}
use mir.Val.{SFits}
use Rattle.laws.specs.Whole.{Within}
use Rattle.laws.proofs.Parts.{abs-parts, add_parts, sub-parts-ℤ, one-part, num, diff}

pub within-le : {m n : ℕ} {z : ℤ} → m ≤ n → Within m z → Within n z
within-le h w = record { within = le_trans w.within h }

pub within-lit : {n : ℕ} {z : ℤ} → T (leb (nat_abs z) n) → Within n z
within-lit {n} {z} t = record { within = leb→le (nat_abs z) n t }

pub within-add : {m n : ℕ} {a b : ℤ} → Within m a → Within n b → Within (m + n) (a +ℤ b)
within-add {m} {n} {a} {b} h k = record { within = omega (arith, h.within, k.within, abs-parts a, abs-parts b, abs-parts (a +ℤ b), add_parts a b, one-part (a +ℤ b)) }

pub within-sub : {m n : ℕ} {a b : ℤ} → Within m a → Within n b → Within (m + n) (a -ℤ b)
within-sub {m} {n} {a} {b} h k = record { within = omega (arith, h.within, k.within, abs-parts a, abs-parts b, abs-parts (a -ℤ b), sub-parts-ℤ a b, one-part (a -ℤ b)) }

abs-neg-pos : (n : ℕ) → nat_abs (neg_ℤ (pos n)) ≡ n
abs-neg-pos zero = refl
abs-neg-pos (suc n) = refl

abs-mul : (a b : ℤ) → nat_abs (a *ℤ b) ≡ nat_abs a * nat_abs b
abs-mul (pos a) (pos b) = refl
abs-mul (pos a) (negsuc b) = abs-neg-pos (a * suc b)
abs-mul (negsuc a) (pos b) = abs-neg-pos (suc a * b)
abs-mul (negsuc a) (negsuc b) = refl

pub within-mul : {m n : ℕ} {a b : ℤ} → Within m a → Within n b → Within (m * n) (a *ℤ b)
within-mul {m} {n} {a} {b} h k = record { within = subst (λ (x : ℕ). x ≤ m * n) (sym (abs-mul a b)) (mul-le-mul h.within k.within) }

mag-abs : (z : ℤ) → mag z ≤ nat_abs z
mag-abs (pos n) = le_refl n
mag-abs (negsuc n) = omega arith

-- a number within n fits, where n is below 2 ^ 63: `lit< tt` at a literal
pub within-fits : {n : ℕ} {z : ℤ} → n < 2 ^ 63 → Within n z → SFits w64 z
within-fits {n} {z} h w = record { sfits = lt_of_le_of_lt (le_trans (mag-abs z) w.within) h }

-- two numbers that lie near a third lie near each other
pub within-between : {m n : ℕ} (o a b : ℤ) → Within m (a -ℤ o) → Within n (b -ℤ o) → Within (m + n) (b -ℤ a)
within-between o a b h k = record { within = omega (arith, h.within, k.within, num a, num b, num o, diff a o, diff b o, diff b a) }
