-- A part of a move and one coordinate: what the code has in hand, and that no sum or difference is too large. Assumes nothing.
use mathlib.Core.Path.{◌≡◌, sym, ◌∙◌, subst₂}
use mathlib.Core.Bool.{true, false}
use Prim.Native.Nat.{◌≤◌}
use native.Mathlib.Omega.{arith}
use lib.Dec.{lit<}
use lib.IntN.{ℤ, pos, negsuc, nat_abs, ◌+ℤ◌, ◌-ℤ◌}
use lib.Signed.{lt_z, le_z}
use mir.Syntax.{w64}
use mir.Val.{SFits, to_z, of_z}
use mir.Facts.{to_z-of_z}
use borrow.Author.Tests.{leb-true, le-leb, lt-leb}
use Rattle.laws.proofs.Choice.{and_left, and_right, and_both, and-false}
use Rattle.laws.proofs.Parts.{ints, num, sum, diff, lt-true, le-true, le_not_lt}
use Rattle.laws.proofs.Bounds.{within-fits}
use Rattle.number.specs.Number.{real_least, real_most, is_real}
use Rattle.edit.specs.Moves.{move_most, is_part}

abbrev pub bits : ℤ → ℤ
bits z = to_z w64 (of_z w64 z)

-- what holds of what two locals hold
pub unbits : {a b : ℤ} (P : ℤ → ℤ → Type 0) → SFits w64 a → SFits w64 b → P (bits a) (bits b) → P a b
unbits P f g p = subst₂ P (to_z-of_z f) (to_z-of_z g) p

pub tobits : {a b : ℤ} (P : ℤ → ℤ → Type 0) → SFits w64 a → SFits w64 b → P a b → P (bits a) (bits b)
tobits P f g p = subst₂ P (sym (to_z-of_z f)) (sym (to_z-of_z g)) p

-- ---- a part of a move

module _ (d : ℤ) (f : SFits w64 d) where
  pub part-high : lt_z (pos 109999999998) (bits d) ≡ true → false ≡ is_part d
  unfolding is_part
  part-high e =
      let g = rw (to_z-of_z f) at e in
      rw (lt-leb (nat_abs d) move_most (omega (arith, ints, num d)))

  pub part_low : lt_z (bits d) (negsuc 109999999997) ≡ true → false ≡ is_part d
  unfolding is_part
  part_low e =
      let g = rw (to_z-of_z f) at e in
      rw (lt-leb (nat_abs d) move_most (omega (arith, ints, num d)))

  pub part_in : lt_z (pos 109999999998) (bits d) ≡ false → lt_z (bits d) (negsuc 109999999997) ≡ false → true ≡ is_part d
  unfolding is_part
  part_in e h =
      let g = rw (to_z-of_z f) at e in
      let k = rw (to_z-of_z f) at h in
      sym (le-leb (nat_abs d) move_most (omega (arith, ints, num d)))

pub part-most : (d : ℤ) → is_part d ≡ true → nat_abs d ≤ move_most
unfolding is_part
part-most d e = leb-true (nat_abs d) move_most e

-- ---- a coordinate, and where it would go

pub record Real (z : ℤ) : Type 0 where
  pub low : le_z real_least z ≡ true
  pub high : le_z z real_most ≡ true

pub real-has : (z : ℤ) → is_real z ≡ true → Real z
unfolding is_real
real-has z e = record { low = and_left (le_z real_least z) (le_z z real_most) e; high = and_right (le_z real_least z) (le_z z real_most) e }

module _ (z d : ℤ) (f : SFits w64 z) (g : SFits w64 d) where
  module _ (p : is_part d ≡ true) where
    d-most : nat_abs d ≤ move_most
    d-most = part-most d p

    pub low_fits : SFits w64 (negsuc 9999999998 -ℤ bits d)
    low_fits = rw (to_z-of_z g) (within-fits {n = 200000000000} (lit< tt) (record { within = omega (arith, num d, diff (negsuc 9999999998) d, d-most) }))

    pub high_fits : SFits w64 (pos 99999999999 -ℤ bits d)
    high_fits = rw (to_z-of_z g) (within-fits {n = 300000000000} (lit< tt) (record { within = omega (arith, num d, diff (pos 99999999999) d, d-most) }))

    low-is : to_z w64 (of_z w64 (negsuc 9999999998 -ℤ bits d)) ≡ negsuc 9999999998 -ℤ d
    low-is = to_z-of_z low_fits ∙ rw (to_z-of_z g)

    high_is : to_z w64 (of_z w64 (pos 99999999999 -ℤ bits d)) ≡ pos 99999999999 -ℤ d
    high_is = to_z-of_z high_fits ∙ rw (to_z-of_z g)

    pub stays-low : lt_z (bits z) (to_z w64 (of_z w64 (negsuc 9999999998 -ℤ bits d))) ≡ true → false ≡ is_real (z +ℤ d)
    unfolding is_real
    stays-low e =
        let h = rw (to_z-of_z f, low-is) at e in
        rw (le_not_lt real_least (z +ℤ d) true (lt-true (z +ℤ d) real_least (omega (arith, ints, num z, num d, sum z d, diff (negsuc 9999999998) d))))

    pub stays-high : lt_z (to_z w64 (of_z w64 (pos 99999999999 -ℤ bits d))) (bits z) ≡ true → false ≡ is_real (z +ℤ d)
    unfolding is_real
    stays-high e =
        let h = rw (to_z-of_z f, high_is) at e in
        rw (le_not_lt (z +ℤ d) real_most true (lt-true real_most (z +ℤ d) (omega (arith, ints, num z, num d, sum z d, diff (pos 99999999999) d)))) (sym (and-false (le_z real_least (z +ℤ d))))

    pub stays-in : lt_z (bits z) (to_z w64 (of_z w64 (negsuc 9999999998 -ℤ bits d))) ≡ false → lt_z (to_z w64 (of_z w64 (pos 99999999999 -ℤ bits d))) (bits z) ≡ false
        → true ≡ is_real (z +ℤ d)
    unfolding is_real
    stays-in e h =
        let k = rw (to_z-of_z f, low-is) at e in
        let l = rw (to_z-of_z f, high_is) at h in
        sym (and_both (le_z real_least (z +ℤ d)) (le_z (z +ℤ d) real_most) (le-true real_least (z +ℤ d) (omega (arith, ints, num z, num d, sum z d, diff (negsuc 9999999998) d)))
        (le-true (z +ℤ d) real_most (omega (arith, ints, num z, num d, sum z d, diff (pos 99999999999) d))))

  module _ (e : is_real (z +ℤ d) ≡ true) where
    real-sum : Real (z +ℤ d)
    real-sum = real-has (z +ℤ d) e

    pub sum_fits : SFits w64 (bits z +ℤ bits d)
    sum_fits =
        let l = real-sum.low in
        let h = real-sum.high in
        rw (to_z-of_z f, to_z-of_z g) (within-fits {n = 100000000000} (lit< tt) (record { within = omega (arith, ints, num (z +ℤ d)) }))

    pub sum_is : to_z w64 (of_z w64 (bits z +ℤ bits d)) ≡ z +ℤ d
    sum_is = to_z-of_z sum_fits ∙ rw (to_z-of_z f, to_z-of_z g)
