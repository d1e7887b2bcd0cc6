-- The product's laws for whole numbers of either sign that the library lacks, from the parts. Assumes nothing.
use mathlib.Core.Path.{◌≡◌, ap, ◌∙◌}
use Prim.Native.Nat.{ℕ, suc, ◌+◌, ◌*◌}
use native.Mathlib.Nat.{mul-add, add-mul, mul_assoc}
use native.Mathlib.Omega.{arith}
use lib.IntN.{ℤ, pos, negsuc, neg_ℤ, ◌+ℤ◌, ◌-ℤ◌, ◌*ℤ◌, *ℤ_comm}
use Rattle.laws.proofs.Parts.{P, N, neg-P, neg-N, add_parts, eq-parts}

mul-parts : (a b : ℤ) → P (a *ℤ b) + (P a * N b + N a * P b) ≡ (P a * P b + N a * N b) + N (a *ℤ b)
mul-parts (pos a) (pos b) = omega arith
mul-parts (pos a) (negsuc b) = omega (arith, neg-P (pos (a * suc b)), neg-N (pos (a * suc b)))
mul-parts (negsuc a) (pos b) = omega (arith, neg-P (pos (suc a * b)), neg-N (pos (suc a * b)))
mul-parts (negsuc a) (negsuc b) = omega arith

module _ (a b c : ℤ) where
  pub mul-plus : a *ℤ (b +ℤ c) ≡ a *ℤ b +ℤ a *ℤ c
  mul-plus =
      let p = simp mul-add at (ap (λ (x : ℕ). P a * x) (add_parts b c)) in
      let n = simp mul-add at (ap (λ (x : ℕ). N a * x) (add_parts b c)) in
      eq-parts (a *ℤ (b +ℤ c)) (a *ℤ b +ℤ a *ℤ c) (omega (arith, p, n, mul-parts a (b +ℤ c), mul-parts a b, mul-parts a c, add_parts (a *ℤ b) (a *ℤ c)))

  pub times-assoc : (a *ℤ b) *ℤ c ≡ a *ℤ (b *ℤ c)
  times-assoc =
      let u = simp (add-mul, mul_assoc) at (ap (λ (x : ℕ). x * P c) (mul-parts a b)) in
      let v = simp (add-mul, mul_assoc) at (ap (λ (x : ℕ). x * N c) (mul-parts a b)) in
      let p = simp mul-add at (ap (λ (x : ℕ). P a * x) (mul-parts b c)) in
      let n = simp mul-add at (ap (λ (x : ℕ). N a * x) (mul-parts b c)) in
      eq-parts ((a *ℤ b) *ℤ c) (a *ℤ (b *ℤ c)) (omega (arith, u, v, p, n, mul-parts (a *ℤ b) c, mul-parts a (b *ℤ c)))

pub plus-mul : (a b c : ℤ) → (a +ℤ b) *ℤ c ≡ a *ℤ c +ℤ b *ℤ c
plus-mul a b c = *ℤ_comm (a +ℤ b) c ∙ mul-plus c a b ∙ ap (λ (x : ℤ). x +ℤ c *ℤ b) (*ℤ_comm c a) ∙ ap (λ (x : ℤ). a *ℤ c +ℤ x) (*ℤ_comm c b)

mul-neg : (a b : ℤ) → a *ℤ neg_ℤ b ≡ neg_ℤ (a *ℤ b)
mul-neg a b =
    let p = ap (λ (x : ℕ). P a * x) (neg-P b) in
    let q = ap (λ (x : ℕ). P a * x) (neg-N b) in
    let r = ap (λ (x : ℕ). N a * x) (neg-P b) in
    let s = ap (λ (x : ℕ). N a * x) (neg-N b) in
    eq-parts (a *ℤ neg_ℤ b) (neg_ℤ (a *ℤ b)) (omega (arith, p, q, r, s, mul-parts a (neg_ℤ b), mul-parts a b, neg-P (a *ℤ b), neg-N (a *ℤ b)))

pub mul-minus : (a b c : ℤ) → a *ℤ (b -ℤ c) ≡ a *ℤ b -ℤ a *ℤ c
mul-minus a b c = mul-plus a b (neg_ℤ c) ∙ ap (λ (x : ℤ). a *ℤ b +ℤ x) (mul-neg a c)
