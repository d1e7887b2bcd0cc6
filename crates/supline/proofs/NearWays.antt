-- The ways through the test of an allowance: the gap in whole square metres, and on which side something is left over. Assumes nothing.
use Prim.Native.Nat.{ℕ, suc, ◌+◌, ◌*◌, ◌/◌, ◌%◌, ◌^◌, ◌≤◌, ◌<◌}
use mathlib.Core.Path.{◌≡◌, refl, sym, ap, ◌∙◌}
use mathlib.Core.Bool.{Bool, true, false}
use native.Mathlib.Omega.{arith}
use lib.Dec.{lit<}
use lib.IntN.{ℤ, pos, negsuc, nat_abs, ◌+ℤ◌, ◌-ℤ◌, ◌*ℤ◌}
use lib.Signed.{lt_z, le_z, quot_z, rem_z}
use mir.Syntax.{w64}
use mir.Val.{SFits, to_z, of_z}
use mir.Facts.{to_z-of_z}
use borrow.Author.Tests.{leb-true}
use Rattle.laws.specs.Whole.{Within}
use Rattle.laws.proofs.Bounds.{within-fits, within-lit}
use Rattle.laws.proofs.Bits.{Holds, holds_of, holds_as, holds-bits, ask-sub, holds-sub, ask-add, holds-add}
use Rattle.laws.proofs.Parts.{P, N, num, add_parts, sub-parts-ℤ, neg-P, neg-N, eq-parts, ints, le-true, lt-true, le_not_lt}
use Rattle.spelling.specs.Figures.{is_narrow}
use Rattle.spelling.proofs.FigureLaws.{narrow-plus, narrow-minus}
use Rattle.supline.specs.Right.{is_near}

abbrev pub metre : ℤ
metre = pos 2000000

-- ---- parts

pub parts-of : (z : ℤ) → (P (quot_z z metre) ≡ P z / 2000000) × (N (quot_z z metre) ≡ N z / 2000000) × (P (rem_z z metre) ≡ P z % 2000000)
    × (N (rem_z z metre) ≡ N z % 2000000)
parts-of (pos a) = (refl, omega arith, refl, omega arith)
parts-of (negsuc a) = (
  neg-P (pos (suc a / 2000000)) ∙ omega arith,
  neg-N (pos (suc a / 2000000)),
  neg-P (pos (suc a % 2000000)) ∙ omega arith,
  neg-N (pos (suc a % 2000000)),
)

pub times : (z : ℤ) → (P (metre *ℤ z) ≡ 2000000 * P z) × (N (metre *ℤ z) ≡ 2000000 * N z)
times (pos a) = (refl, omega arith)
times (negsuc a) = (neg-P (pos (2000000 * suc a)) ∙ omega arith, neg-N (pos (2000000 * suc a)))

-- ---- where nothing is allowed, a figure is the number itself

pub near-itself : (f z : ℤ) → is_near f (metre *ℤ z) (pos 0) ≡ true → f ≡ z
unfolding is_near
near-itself f z e =
    eq-parts f z
    (omega (arith, ints, times f, times z, sub-parts-ℤ (metre *ℤ f) (metre *ℤ z), num (metre *ℤ f -ℤ metre *ℤ z)))

-- ---- whole numbers

module _ (f d n : ℤ) where
  abbrev apart : ℤ
  apart = metre *ℤ f -ℤ d

  pub near-yes : nat_abs apart + N (metre *ℤ n) ≤ P (metre *ℤ n) → is_near f d n ≡ true
  unfolding is_near
  near-yes h = le-true (pos (nat_abs apart)) (metre *ℤ n) (omega arith)

  pub near-no : P (metre *ℤ n) < nat_abs apart + N (metre *ℤ n) → is_near f d n ≡ false
  unfolding is_near
  near-no h = le_not_lt (pos (nat_abs apart)) (metre *ℤ n) true (lt-true (metre *ℤ n) (pos (nat_abs apart)) (omega arith))

  abbrev gap : ℤ
  gap = f -ℤ quot_z d metre

  abbrev rest : ℤ
  rest = rem_z d metre

  -- something is left over below
  module _ (t : lt_z rest (pos 0) ≡ true) where
    pub under-over : lt_z n (gap +ℤ pos 1) ≡ true → false ≡ is_near f d n
    under-over h =
        sym (near-no (omega (arith, ints, parts-of d, times f, times n, sub-parts-ℤ (metre *ℤ f) d, num apart, sub-parts-ℤ f (quot_z d metre), add_parts gap (pos 1))))

    pub under_rest : lt_z n (gap +ℤ pos 1) ≡ false → le_z (pos 0 -ℤ gap) n ≡ is_near f d n
    under_rest h = go (le_z (pos 0 -ℤ gap) n) refl
      where
        go : (b : Bool) → le_z (pos 0 -ℤ gap) n ≡ b → b ≡ is_near f d n
        go true e =
            sym (near-yes (omega (arith, ints, parts-of d, times f, times n, sub-parts-ℤ (metre *ℤ f) d, num apart, sub-parts-ℤ f (quot_z d metre), add_parts gap (pos 1), sub-parts-ℤ (pos 0) gap)))
        go false e =
            sym (near-no (omega (arith, ints, parts-of d, times f, times n, sub-parts-ℤ (metre *ℤ f) d, num apart, sub-parts-ℤ f (quot_z d metre), add_parts gap (pos 1), sub-parts-ℤ (pos 0) gap)))

  module _ (t : lt_z rest (pos 0) ≡ false) where
    pub gap-over : lt_z n gap ≡ true → false ≡ is_near f d n
    gap-over h = sym (near-no (omega (arith, ints, parts-of d, times f, times n, sub-parts-ℤ (metre *ℤ f) d, num apart, sub-parts-ℤ f (quot_z d metre))))

    module _ (h : lt_z n gap ≡ false) where
      -- something is left over above
      pub over-rest : lt_z (pos 0) rest ≡ true → le_z (pos 1 -ℤ gap) n ≡ is_near f d n
      over-rest u = go (le_z (pos 1 -ℤ gap) n) refl
        where
          go : (b : Bool) → le_z (pos 1 -ℤ gap) n ≡ b → b ≡ is_near f d n
          go true e =
              sym (near-yes (omega (arith, ints, parts-of d, times f, times n, sub-parts-ℤ (metre *ℤ f) d, num apart, sub-parts-ℤ f (quot_z d metre), sub-parts-ℤ (pos 1) gap)))
          go false e =
              sym (near-no (omega (arith, ints, parts-of d, times f, times n, sub-parts-ℤ (metre *ℤ f) d, num apart, sub-parts-ℤ f (quot_z d metre), sub-parts-ℤ (pos 1) gap)))

      pub no-rest : lt_z (pos 0) rest ≡ false → le_z (pos 0 -ℤ gap) n ≡ is_near f d n
      no-rest u = go (le_z (pos 0 -ℤ gap) n) refl
        where
          go : (b : Bool) → le_z (pos 0 -ℤ gap) n ≡ b → b ≡ is_near f d n
          go true e =
              sym (near-yes (omega (arith, ints, parts-of d, times f, times n, sub-parts-ℤ (metre *ℤ f) d, num apart, sub-parts-ℤ f (quot_z d metre), sub-parts-ℤ (pos 0) gap)))
          go false e =
              sym (near-no (omega (arith, ints, parts-of d, times f, times n, sub-parts-ℤ (metre *ℤ f) d, num apart, sub-parts-ℤ f (quot_z d metre), sub-parts-ℤ (pos 0) gap)))

-- ---- figures of ten characters

pub narrow_within : (z : ℤ) → is_narrow z ≡ true → Within 9999999999 z
narrow_within (pos a) e = record { within = leb-true a 9999999999 (sym (narrow-plus a) ∙ e) }
narrow_within (negsuc a) e = record { within = omega (arith, leb-true a 999999998 (sym (narrow-minus a) ∙ e)) }

quot-within : (z : ℤ) → SFits w64 z → Within 4611686018427 (quot_z z metre)
quot-within (pos a) f = let h : a < 2 ^ 63 = f.sfits in record { within = omega arith }
quot-within (negsuc a) f =
    let h : a < 2 ^ 63 = f.sfits in
    let p = parts-of (negsuc a) in
    record { within = omega (arith, num (quot_z (negsuc a) metre), p.0, p.1) }

rem-within : (z : ℤ) → Within 1999999 (rem_z z metre)
rem-within (pos a) = record { within = omega arith }
rem-within (negsuc a) =
    let p = parts-of (negsuc a) in
    record { within = omega (arith, num (rem_z (negsuc a) metre), p.2, p.3) }

-- ---- the code: what its locals hold

abbrev held : ℤ → ℤ
held z = to_z w64 (of_z w64 z)

module _ (f d n : ℤ) (ff : SFits w64 f) (fd : SFits w64 d) (fn : SFits w64 n) (narrow : is_narrow f ≡ true) where
  figure-holds : Holds 9999999999 f (of_z w64 f)
  figure-holds = holds_of ff (narrow_within f narrow)

  quot-holds : Holds 4611686018427 (quot_z d metre) (of_z w64 (quot_z (held d) metre))
  quot-holds = holds_as (ap (λ (x : ℤ). quot_z x metre) (to_z-of_z fd)) (lit< tt) (quot-within d fd)

  rem-holds : Holds 1999999 (rem_z d metre) (of_z w64 (rem_z (held d) metre))
  rem-holds = holds_as (ap (λ (x : ℤ). rem_z x metre) (to_z-of_z fd)) (lit< tt) (rem-within d)

  pub quot-asks : (0 < 2000000) × SFits w64 (quot_z (held d) metre)
  quot-asks = (omega arith, rw (to_z-of_z fd) (within-fits (lit< tt) (quot-within d fd)))

  pub gap-asks : SFits w64 (held f -ℤ to_z w64 (of_z w64 (quot_z (held d) metre)))
  gap-asks = ask-sub figure-holds quot-holds (lit< tt)

  abbrev gap_bits : ℕ
  gap_bits = of_z w64 (held f -ℤ to_z w64 (of_z w64 (quot_z (held d) metre)))

  abbrev rest_bits : ℕ
  rest_bits = of_z w64 (rem_z (held d) metre)

  gap-holds : Holds 4621686018426 (f -ℤ quot_z d metre) gap_bits
  gap-holds = holds-sub figure-holds quot-holds (lit< tt)

  one_holds : Holds 1 (pos 1) 1
  one_holds = holds-bits {n = 1} {b = 1} (within-lit tt)

  none-holds : Holds 0 (pos 0) 0
  none-holds = holds-bits {n = 0} {b = 0} (within-lit tt)

  pub more-asks : SFits w64 (to_z w64 gap_bits +ℤ pos 1)
  more-asks = ask-add gap-holds one_holds (lit< tt)

  pub less-asks : SFits w64 (pos 0 -ℤ to_z w64 gap_bits)
  less-asks = ask-sub none-holds gap-holds (lit< tt)

  pub past-asks : SFits w64 (pos 1 -ℤ to_z w64 gap_bits)
  past-asks = ask-sub one_holds gap-holds (lit< tt)

  gap-reads : to_z w64 gap_bits ≡ f -ℤ quot_z d metre
  gap-reads = gap-holds.reads

  rest-reads : to_z w64 rest_bits ≡ rem_z d metre
  rest-reads = rem-holds.reads

  more-reads : to_z w64 (of_z w64 (to_z w64 gap_bits +ℤ pos 1)) ≡ (f -ℤ quot_z d metre) +ℤ pos 1
  more-reads = (holds-add gap-holds one_holds (lit< tt)).reads

  less-reads : to_z w64 (of_z w64 (pos 0 -ℤ to_z w64 gap_bits)) ≡ pos 0 -ℤ (f -ℤ quot_z d metre)
  less-reads = (holds-sub none-holds gap-holds (lit< tt)).reads

  past-reads : to_z w64 (of_z w64 (pos 1 -ℤ to_z w64 gap_bits)) ≡ pos 1 -ℤ (f -ℤ quot_z d metre)
  past-reads = (holds-sub one_holds gap-holds (lit< tt)).reads

  module _ (t : lt_z (to_z w64 rest_bits) (pos 0) ≡ true) where
    pub code-under-over : lt_z (held n) (to_z w64 (of_z w64 (to_z w64 gap_bits +ℤ pos 1))) ≡ true → false ≡ is_near f d n
    code-under-over h = under-over f d n (rw rest-reads at t) (rw (to_z-of_z fn, more-reads) at h)

    pub code-under-rest : lt_z (held n) (to_z w64 (of_z w64 (to_z w64 gap_bits +ℤ pos 1))) ≡ false → le_z (to_z w64 (of_z w64 (pos 0 -ℤ to_z w64 gap_bits))) (held n) ≡ is_near f d n
    code-under-rest h = rw (less-reads, to_z-of_z fn) (under_rest f d n (rw rest-reads at t) (rw (to_z-of_z fn, more-reads) at h))

  module _ (t : lt_z (to_z w64 rest_bits) (pos 0) ≡ false) where
    pub code-gap-over : lt_z (held n) (to_z w64 gap_bits) ≡ true → false ≡ is_near f d n
    code-gap-over h = gap-over f d n (rw rest-reads at t) (rw (to_z-of_z fn, gap-reads) at h)

    module _ (h : lt_z (held n) (to_z w64 gap_bits) ≡ false) where
      pub code-over-rest : lt_z (pos 0) (to_z w64 rest_bits) ≡ true → le_z (to_z w64 (of_z w64 (pos 1 -ℤ to_z w64 gap_bits))) (held n) ≡ is_near f d n
      code-over-rest u = rw (past-reads, to_z-of_z fn) (over-rest f d n (rw rest-reads at t) (rw (to_z-of_z fn, gap-reads) at h) (rw rest-reads at u))

      pub code-no-rest : lt_z (pos 0) (to_z w64 rest_bits) ≡ false → le_z (to_z w64 (of_z w64 (pos 0 -ℤ to_z w64 gap_bits))) (held n) ≡ is_near f d n
      code-no-rest u = rw (less-reads, to_z-of_z fn) (no-rest f d n (rw rest-reads at t) (rw (to_z-of_z fn, gap-reads) at h) (rw rest-reads at u))
