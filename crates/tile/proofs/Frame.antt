-- The frame's bounds, the number 256, and the cases of the two answers. Assumes nothing.
use mathlib.Core.Path.{◌≡◌, refl}
use mathlib.Core.Bool.{Bool, true, false}
use Prim.Native.Nat.{ℕ, ◌≤◌, ◌^◌}
use native.Mathlib.Omega.{arith}
use lib.Dec.{T, le→leb, lit<}
use lib.Count.{count_trailing_zeros}
use lib.IntN.{ℤ, pos, negsuc, ◌-ℤ◌}
use lib.Signed.{le_z}
use lib.Ieee.{Float, binary32, in_float, of_bits, of_fields, odd}
use mir.Syntax.{w64}
use mir.Val.{SFits}
use Rattle.std.proofs.Common.{Option, Some, None}
use Rattle.laws.specs.Whole.{Within}
use Rattle.laws.proofs.Bounds.{within-sub, within-fits}
use Rattle.laws.proofs.Choice.{and_left, and_right}
use Rattle.laws.proofs.Parts.{P, N, num, ints}
use Rattle.number.specs.Number.{is_real, real_least, real_most}
use Rattle.tile.specs.Tiles.{frame, in_frame, fits, two-five-six, scaled, along_of, tile_of}

pub real-within : (z : ℤ) → is_real z ≡ true → Within 99999999999 z
unfolding is_real
real-within z e =
    let a = and_left (le_z real_least z) (le_z z real_most) e in
    let b = and_right (le_z real_least z) (le_z z real_most) e in
    record { within = omega (arith, ints, num z) }

pub difference_fits : (from to : ℤ) → is_real from ≡ true → is_real to ≡ true → SFits w64 (to -ℤ from)
difference_fits from to a b = within-fits (lit< tt) (within-sub (real-within to b) (real-within from a))

in-float : (d : ℤ) → N d ≡ 0 → P d ≤ 2 ^ 24 → T (in_float binary32 d)
unfolding in_float
in-float (pos n) h k = le→leb n (2 ^ 24) k
in-float (negsuc n) h k = let e : ⊥ = omega arith in absurd e

pub inside-float : (d : ℤ) → in_frame d ≡ true → T (in_float binary32 d)
unfolding in_frame
inside-float d e =
    let a = and_left (le_z (pos 0) d) (le_z d (pos frame)) e in
    let b = and_right (le_z (pos 0) d) (le_z d (pos frame)) e in
    in-float d (omega (arith, ints, num d)) (omega (arith, ints, num d))

-- 256.0 as the code has it, by its bits
pub the-divisor : of_bits binary32 1132462080 ≡ two-five-six
unfolding of_bits of_fields odd count_trailing_zeros
the-divisor = refl

module _ (from to : ℤ) where
  pub off-frame : is_real from ≡ true → is_real to ≡ true → in_frame (to -ℤ from) ≡ false → None ≡ along_of from to
  unfolding along_of fits
  off-frame a b c = simp (a, b, c)

  pub by-scaled : is_real from ≡ true → is_real to ≡ true → in_frame (to -ℤ from) ≡ true → Some (scaled (to -ℤ from)) ≡ along_of from to
  unfolding along_of fits
  by-scaled a b c = simp (a, b, c)
