-- The ways through the signed floor, and that a square metre is found by its halves. Assumes nothing.
use Prim.Native.Nat.{ℕ, suc, ◌+◌, ◌-◌, ◌/◌, ◌^◌, ◌≤◌, ◌<◌}
use mathlib.Core.Path.{◌≡◌, refl, sym, ◌∙◌, ap, subst}
use mathlib.Core.Bool.{Bool, true, false}
use native.Mathlib.Omega.{arith}
use lib.Dec.{ltb}
use lib.IntN.{ℤ, pos, negsuc, ◌+ℤ◌, ◌-ℤ◌}
use lib.Signed.{mag, lt_z, quot_z, shr_z}
use mir.Syntax.{w64}
use mir.Val.{SFits, to_z, of_z}
use mir.ValLaws.{to_z-of_z}
use borrow.Author.Tests.{ltb-true, ltb-false}
use Rattle.laws.proofs.Choice.{false≢true}
use Rattle.laws.proofs.Parts.{sum, diff, eq-parts, parts-fit}
use Rattle.sup.specs.Metres.{metres_of}

-- what a local holds, where it is known what was computed
read_as : {z y : ℤ} → z ≡ y → mag y < 2 ^ 63 → to_z w64 (of_z w64 z) ≡ y
read_as {z} {y} e h = ap (λ (x : ℤ). to_z w64 (of_z w64 x)) e ∙ to_z-of_z w64 y (record { sfits = h })

fits-to : {z y : ℤ} → z ≡ y → mag y < 2 ^ 63 → SFits w64 z
fits-to e h = subst (λ (x : ℤ). SFits w64 x) (sym e) (record { sfits = h })

one_less : (a : ℕ) → negsuc 0 -ℤ negsuc a ≡ pos a
one_less a = eq-parts (negsuc 0 -ℤ negsuc a) (pos a) (omega (arith, diff (negsuc 0) (negsuc a)))

one-back : (q : ℕ) → negsuc 0 -ℤ pos q ≡ negsuc q
one-back q = eq-parts (negsuc 0 -ℤ pos q) (negsuc q) (omega (arith, diff (negsuc 0) (pos q)))

-- ---- below zero

below-zero : (z : ℤ) → lt_z z (pos 0) ≡ true → z ≡ negsuc (mag z)
below-zero (pos a) e = absurd (let h : a < 0 = ltb-true a 0 e in omega arith)
below-zero (negsuc a) e = refl

above_zero : (z : ℤ) → lt_z z (pos 0) ≡ false → z ≡ pos (mag z)
above_zero (pos a) e = refl
above_zero (negsuc a) e = absurd (false≢true (sym e))

module _ (z : ℤ) (f : SFits w64 z) (e : lt_z (to_z w64 (of_z w64 z)) (pos 0) ≡ true) where
  is_below : z ≡ negsuc (mag z)
  is_below = below-zero z (rw (to_z-of_z w64 z f) at e)

  less-first : negsuc 0 -ℤ to_z w64 (of_z w64 z) ≡ pos (mag z)
  less-first = ap (λ (x : ℤ). negsuc 0 -ℤ x) (to_z-of_z w64 z f ∙ is_below) ∙ one_less (mag z)

  pub less-asks : SFits w64 (negsuc 0 -ℤ to_z w64 (of_z w64 z))
  less-asks = fits-to less-first f.sfits

  abbrev less : ℤ
  less = to_z w64 (of_z w64 (negsuc 0 -ℤ to_z w64 (of_z w64 z)))

  quot_is : quot_z less (pos 1000000) ≡ pos (mag z / 1000000)
  quot_is = ap (λ (x : ℤ). quot_z x (pos 1000000)) (read_as less-first f.sfits)

  part_small : mag z / 1000000 < 2 ^ 63
  part_small = let h : mag z < 2 ^ 63 = f.sfits in omega arith

  pub quot-asks : (0 < 1000000) × SFits w64 (quot_z less (pos 1000000))
  quot-asks = (omega arith, fits-to quot_is part_small)

  back-first : negsuc 0 -ℤ to_z w64 (of_z w64 (quot_z less (pos 1000000))) ≡ negsuc (mag z / 1000000)
  back-first = ap (λ (x : ℤ). negsuc 0 -ℤ x) (read_as quot_is part_small) ∙ one-back (mag z / 1000000)

  pub back-asks : SFits w64 (negsuc 0 -ℤ to_z w64 (of_z w64 (quot_z less (pos 1000000))))
  back-asks = fits-to back-first part_small

  pub below-is : to_z w64 (of_z w64 (negsuc 0 -ℤ to_z w64 (of_z w64 (quot_z less (pos 1000000))))) ≡ shr_z z 1000000
  below-is = read_as back-first part_small ∙ sym (ap (λ (x : ℤ). shr_z x 1000000) is_below)

-- ---- from zero on

module _ (z : ℤ) (f : SFits w64 z) (e : lt_z (to_z w64 (of_z w64 z)) (pos 0) ≡ false) where
  is-above : to_z w64 (of_z w64 z) ≡ pos (mag z)
  is-above = to_z-of_z w64 z f ∙ above_zero z (rw (to_z-of_z w64 z f) at e)

  whole_is : quot_z (to_z w64 (of_z w64 z)) (pos 1000000) ≡ pos (mag z / 1000000)
  whole_is = ap (λ (x : ℤ). quot_z x (pos 1000000)) is-above

  whole-small : mag z / 1000000 < 2 ^ 63
  whole-small = let h : mag z < 2 ^ 63 = f.sfits in omega arith

  pub whole-asks : (0 < 1000000) × SFits w64 (quot_z (to_z w64 (of_z w64 z)) (pos 1000000))
  whole-asks = (omega arith, fits-to whole_is whole-small)

  pub above-is : to_z w64 (of_z w64 (quot_z (to_z w64 (of_z w64 z)) (pos 1000000))) ≡ shr_z z 1000000
  above-is = read_as whole_is whole-small ∙ sym (ap (λ (x : ℤ). shr_z x 1000000) (above_zero z (rw (to_z-of_z w64 z f) at e)))

-- ---- by halves

minus-low : (a k : ℕ) → a < k → negsuc a +ℤ pos k ≡ pos (k - suc a)
minus-low a k h = eq-parts (negsuc a +ℤ pos k) (pos (k - suc a)) (omega (arith, sum (negsuc a) (pos k)))

minus-high : (a k : ℕ) → k ≤ a → negsuc a +ℤ pos k ≡ negsuc (a - k)
minus-high a k h = eq-parts (negsuc a +ℤ pos k) (negsuc (a - k)) (omega (arith, sum (negsuc a) (pos k)))

-- the greater half of the halves is the floor with half a metre more
pub halves : (d : ℤ) → shr_z (shr_z d 1000000 +ℤ pos 1) 2 ≡ metres_of d
unfolding metres_of
halves (pos a) = let e : (a / 1000000 + 1) / 2 ≡ (a + 1000000) / 2000000 = omega arith in ap pos e
halves (negsuc a) = go (ltb a 1000000) refl
  where
    go : (t : Bool) → ltb a 1000000 ≡ t → shr_z (negsuc (a / 1000000) +ℤ pos 1) 2 ≡ shr_z (negsuc a +ℤ pos 1000000) 2000000
    go true e =
        let h : a < 1000000 = ltb-true a 1000000 e in
        let q : a / 1000000 < 1 = omega arith in
        let s : (1 - suc (a / 1000000)) / 2 ≡ (1000000 - suc a) / 2000000 = omega arith in
        rw (minus-low (a / 1000000) 1 q, minus-low a 1000000 h) (ap pos s)
    go false e =
        let h : 1000000 ≤ a = ltb-false a 1000000 e in
        let q : 1 ≤ a / 1000000 = omega arith in
        let s : (a / 1000000 - 1) / 2 ≡ (a - 1000000) / 2000000 = omega arith in
        rw (minus-high (a / 1000000) 1 q, minus-high a 1000000 h) (ap negsuc s)

half-small : (d : ℤ) → SFits w64 d → mag (shr_z d 1000000) < 2 ^ 62
half-small (pos a) f = let h : a < 2 ^ 63 = f.sfits in omega arith
half-small (negsuc a) f = let h : a < 2 ^ 63 = f.sfits in omega arith

more-fits : (h : ℤ) → mag h < 2 ^ 62 → SFits w64 (h +ℤ pos 1)
more-fits (pos a) k = record { sfits = omega arith }
more-fits (negsuc a) k = parts-fit (negsuc a +ℤ pos 1) (omega (arith, sum (negsuc a) (pos 1))) (omega (arith, sum (negsuc a) (pos 1)))

shift_fits : (x : ℤ) → SFits w64 x → SFits w64 (shr_z x 2)
shift_fits (pos a) f = let h : a < 2 ^ 63 = f.sfits in record { sfits = omega arith }
shift_fits (negsuc a) f = let h : a < 2 ^ 63 = f.sfits in record { sfits = omega arith }

module _ (d h : ℤ) (f : SFits w64 d) (e : h ≡ shr_z (to_z w64 (of_z w64 d)) 1000000) where
  half_back : to_z w64 (of_z w64 h) ≡ shr_z d 1000000
  half_back = read_as (e ∙ ap (λ (x : ℤ). shr_z x 1000000) (to_z-of_z w64 d f)) (omega (arith, half-small d f))

  pub half-asks : SFits w64 (to_z w64 (of_z w64 h) +ℤ pos 1)
  half-asks = rw half_back (more-fits (shr_z d 1000000) (half-small d f))

  more-back : to_z w64 (of_z w64 (to_z w64 (of_z w64 h) +ℤ pos 1)) ≡ shr_z d 1000000 +ℤ pos 1
  more-back = to_z-of_z w64 (to_z w64 (of_z w64 h) +ℤ pos 1) half-asks ∙ ap (λ (x : ℤ). x +ℤ pos 1) half_back

  pub metres-is : to_z w64 (of_z w64 (shr_z (to_z w64 (of_z w64 (to_z w64 (of_z w64 h) +ℤ pos 1))) 2)) ≡ metres_of d
  metres-is =
      let p : shr_z (to_z w64 (of_z w64 (to_z w64 (of_z w64 h) +ℤ pos 1))) 2 ≡ shr_z (shr_z d 1000000 +ℤ pos 1) 2 = ap (λ (x : ℤ). shr_z x 2) more-back in
      read_as p (shift_fits (shr_z d 1000000 +ℤ pos 1) (more-fits (shr_z d 1000000) (half-small d f))).sfits ∙ halves d

shift_small : (x : ℤ) → SFits w64 x → mag (shr_z x 2) < 2 ^ 62
shift_small (pos a) f = let h : a < 2 ^ 63 = f.sfits in omega arith
shift_small (negsuc a) f = let h : a < 2 ^ 63 = f.sfits in omega arith

pub metres-small : (d : ℤ) → SFits w64 d → mag (metres_of d) < 2 ^ 62
metres-small d f =
    subst (λ (x : ℤ). mag x < 2 ^ 62) (halves d) (shift_small (shr_z d 1000000 +ℤ pos 1) (more-fits (shr_z d 1000000) (half-small d f)))
