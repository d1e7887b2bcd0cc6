-- A signed local holds bits. `Holds n z b`: the bits b read as z, and z is at most n from 0. One pair of lemmas for each operation of the code:
-- `ask-..` answers the need that the result fits, `holds-..` says what it holds. Assumes nothing.
use mathlib.Core.Path.{◌≡◌, refl, sym, ap, ◌∙◌, subst, subst₂}
use mathlib.Core.Bool.{Bool, true, false}
use Prim.Native.Nat.{ℕ, ◌+◌, ◌*◌, ◌≤◌, ◌<◌, ◌^◌}
use lib.Dec.{eqb}
use lib.IntN.{ℤ, pos, negsuc, ◌+ℤ◌, ◌-ℤ◌, ◌*ℤ◌}
use lib.Signed.{mag, lt_z}
use mir.Syntax.{w64}
use mir.Val.{SFits, to_z, of_z}
use mir.Facts.{to_z-of_z}
use borrow.Author.Tests.{eq-eqb, ne_eqb, eqb-true, eqb-false}
use Rattle.laws.specs.Whole.{Within, eq_z, low_z, high_z}
use Rattle.laws.proofs.Choice.{false≢true}
use Rattle.laws.proofs.Bounds.{within-le, within-add, within-sub, within-mul, within-fits}

pub record Holds (n : ℕ) (z : ℤ) (b : ℕ) : Type 0 where
  pub near : Within n z
  pub reads : to_z w64 b ≡ z

-- an argument, an element of a slice or a call's result, of which a bound is known
pub holds_of : {n : ℕ} {z : ℤ} → SFits w64 z → Within n z → Holds n z (of_z w64 z)
holds_of f w = record { near = w; reads = to_z-of_z f }

pub holds-within : {n : ℕ} {z : ℤ} → n < 2 ^ 63 → Within n z → Holds n z (of_z w64 z)
holds-within t w = holds_of (within-fits t w) w

-- the bits b, at a literal: `holds-bits (within-lit tt)`
pub holds-bits : {n b : ℕ} → Within n (to_z w64 b) → Holds n (to_z w64 b) b
holds-bits w = record { near = w; reads = refl }

pub holds-le : {m n b : ℕ} {z : ℤ} → m ≤ n → Holds m z b → Holds n z b
holds-le h p = record { near = within-le h p.near; reads = p.reads }

module _ {m n x y : ℕ} {a b : ℤ} (p : Holds m a x) (q : Holds n b y) where
  pub ask-add : m + n < 2 ^ 63 → SFits w64 (to_z w64 x +ℤ to_z w64 y)
  ask-add t = subst₂ (λ (u v : ℤ). SFits w64 (u +ℤ v)) (sym p.reads) (sym q.reads) (within-fits t (within-add p.near q.near))

  pub ask-sub : m + n < 2 ^ 63 → SFits w64 (to_z w64 x -ℤ to_z w64 y)
  ask-sub t = subst₂ (λ (u v : ℤ). SFits w64 (u -ℤ v)) (sym p.reads) (sym q.reads) (within-fits t (within-sub p.near q.near))

  pub ask-mul : m * n < 2 ^ 63 → SFits w64 (to_z w64 x *ℤ to_z w64 y)
  ask-mul t = subst₂ (λ (u v : ℤ). SFits w64 (u *ℤ v)) (sym p.reads) (sym q.reads) (within-fits t (within-mul p.near q.near))

  pub holds-add : m + n < 2 ^ 63 → Holds (m + n) (a +ℤ b) (of_z w64 (to_z w64 x +ℤ to_z w64 y))
  holds-add t = record { near = within-add p.near q.near; reads = to_z-of_z (ask-add t) ∙ ap (λ (u : ℤ). u +ℤ to_z w64 y) p.reads ∙ ap (λ (v : ℤ). a +ℤ v) q.reads }

  pub holds-sub : m + n < 2 ^ 63 → Holds (m + n) (a -ℤ b) (of_z w64 (to_z w64 x -ℤ to_z w64 y))
  holds-sub t = record { near = within-sub p.near q.near; reads = to_z-of_z (ask-sub t) ∙ ap (λ (u : ℤ). u -ℤ to_z w64 y) p.reads ∙ ap (λ (v : ℤ). a -ℤ v) q.reads }

  pub holds-mul : m * n < 2 ^ 63 → Holds (m * n) (a *ℤ b) (of_z w64 (to_z w64 x *ℤ to_z w64 y))
  holds-mul t = record { near = within-mul p.near q.near; reads = to_z-of_z (ask-mul t) ∙ ap (λ (u : ℤ). u *ℤ to_z w64 y) p.reads ∙ ap (λ (v : ℤ). a *ℤ v) q.reads }

-- a call's result goes through a local's bits: `back c.f.result c.f.ok`
pub back : (z : ℤ) → mag z < 2 ^ 63 → to_z w64 (of_z w64 z) ≡ z
back z h = to_z-of_z {w = w64} (record { sfits = h })

-- what the code computes is z, which cc shows to be y, and a bound on y is known
pub fits-as : {n : ℕ} {z y : ℤ} → z ≡ y → Within n y → n < 2 ^ 63 → SFits w64 z
fits-as e w h = subst (λ (x : ℤ). SFits w64 x) (sym e) (within-fits h w)

-- the result r of a call, in a local, where the callee ensures that it is z
pub holds_as : {n : ℕ} {r z : ℤ} → r ≡ z → n < 2 ^ 63 → Within n z → Holds n z (of_z w64 r)
holds_as {n} {r} {z} e h w = subst (λ (x : ℤ). Holds n z (of_z w64 x)) (sym e) (holds-within h w)

pub read-within : {n b : ℕ} {z : ℤ} → Holds n z b → Within n (to_z w64 b)
read-within {n} p = subst (λ (x : ℤ). Within n x) (sym p.reads) p.near

-- a - b in a local, of two numbers that fit, where a bound on the difference is known and none on the numbers
abbrev pub diff-bits : ℤ → ℤ → ℕ
diff-bits a b = of_z w64 (to_z w64 (of_z w64 a) -ℤ to_z w64 (of_z w64 b))

pub ask-diff : {n : ℕ} (a b : ℤ) → mag a < 2 ^ 63 → mag b < 2 ^ 63 → n < 2 ^ 63 → Within n (a -ℤ b) → SFits w64 (to_z w64 (of_z w64 a) -ℤ to_z w64 (of_z w64 b))
ask-diff a b f g h w = fits-as (cc (back a f, back b g)) w h

pub holds-diff : {n : ℕ} (a b : ℤ) → mag a < 2 ^ 63 → mag b < 2 ^ 63 → n < 2 ^ 63 → Within n (a -ℤ b) → Holds n (a -ℤ b) (diff-bits a b)
holds-diff a b f g h w = record { near = w; reads = to_z-of_z (ask-diff a b f g h w) ∙ cc (back a f, back b g) }

-- ---- tests

same : (a : ℤ) → eq_z a a ≡ true
same (pos a) = eq-eqb a a refl
same (negsuc a) = eq-eqb a a refl

pub eq_z-yes : (a b : ℤ) → a ≡ b → eq_z a b ≡ true
eq_z-yes a b e = rw (← e) (same a)

pub eq_z-no : (a b : ℤ) → (a ≡ b → ⊥) → eq_z a b ≡ false
eq_z-no (pos a) (pos b) f = ne_eqb a b (λ e. f (ap pos e))
eq_z-no (pos a) (negsuc b) f = refl
eq_z-no (negsuc a) (pos b) f = refl
eq_z-no (negsuc a) (negsuc b) f = ne_eqb a b (λ e. f (ap negsuc e))

pub eq_z-same : (a b : ℤ) → eq_z a b ≡ true → a ≡ b
eq_z-same (pos a) (pos b) e = ap pos (eqb-true a b e)
eq_z-same (pos a) (negsuc b) e = absurd (false≢true e)
eq_z-same (negsuc a) (pos b) e = absurd (false≢true e)
eq_z-same (negsuc a) (negsuc b) e = ap negsuc (eqb-true a b e)

-- a test of bits, as the code's `==` of two locals has it
pub bits-yes : (a b : ℤ) → to_z w64 (of_z w64 a) ≡ a → to_z w64 (of_z w64 b) ≡ b → of_z w64 a ≡ of_z w64 b → eq_z a b ≡ true
bits-yes a b p q e = eq_z-yes a b (sym p ∙ ap (to_z w64) e ∙ q)

pub bits-no : (a b : ℤ) → (of_z w64 a ≡ of_z w64 b → ⊥) → eq_z a b ≡ false
bits-no a b f = eq_z-no a b (λ e. f (ap (of_z w64) e))

pub bits-eqb : (a b : ℤ) → to_z w64 (of_z w64 a) ≡ a → to_z w64 (of_z w64 b) ≡ b → eqb (of_z w64 a) (of_z w64 b) ≡ eq_z a b
bits-eqb a b p q = go (eqb (of_z w64 a) (of_z w64 b)) refl
  where
    go : (t : Bool) → eqb (of_z w64 a) (of_z w64 b) ≡ t → t ≡ eq_z a b
    go true e = sym (bits-yes a b p q (eqb-true (of_z w64 a) (of_z w64 b) e))
    go false e = sym (bits-no a b (eqb-false (of_z w64 a) (of_z w64 b) e))

pub low-yes : (a b : ℤ) → lt_z a b ≡ true → a ≡ low_z a b
low-yes a b e = simp e

pub low-no : (a b : ℤ) → lt_z a b ≡ false → b ≡ low_z a b
low-no a b e = simp e

pub high-yes : (a b : ℤ) → lt_z a b ≡ true → b ≡ high_z a b
high-yes a b e = simp e

pub high-no : (a b : ℤ) → lt_z a b ≡ false → a ≡ high_z a b
high-no a b e = simp e
