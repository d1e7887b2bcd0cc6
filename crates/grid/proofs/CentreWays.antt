-- Which centres of a row lie before a bound: one_if division tells. Assumes nothing.
use mathlib.Core.Path.{◌≡◌, refl, sym, ◌∙◌, ap, subst}
use mathlib.Core.Bool.{Bool, true, false}
use Prim.Native.Nat.{ℕ, suc, ◌+◌, ◌-◌, ◌*◌, ◌/◌, ◌^◌, ◌≤◌, ◌<◌}
use native.Mathlib.Nat.{le-div_iff_mul-le, lt_of_le_of_lt, le_refl, le_trans, mul-le-mul, mul-pos}
use native.Mathlib.Omega.{arith}
use lib.Dec.{T, ltb, lit<, lit≤}
use lib.IntN.{ℤ, pos, negsuc, nat_abs, ◌+ℤ◌, ◌-ℤ◌, ◌*ℤ◌}
use lib.Signed.{lt_z, le_z, non_neg, mag}
use lib.Pow.{pow_pos, ones_split, high, ones_lt}
use mir.Syntax.{w64}
use mir.Val.{SFits, Fits, to_z, of_z}
use mir.Facts.{to_z-of_z, to_z_pos, Fits-nat_abs}
use borrow.Author.Tests.{lt-ltb, le-ltb, ltb-true, ltb-false}
use Rattle.laws.specs.Whole.{Within}
use Rattle.laws.proofs.Parts.{ints, num, diff, lt-true, lt-false, le_yes, le-no}
use Rattle.laws.proofs.Bounds.{within-sub, within-add, within-mul, within-le, within-fits}
use Rattle.laws.proofs.Bits.{diff-bits, ask-diff, holds-diff, back}
use Rattle.laws.proofs.Choice.{false≢true}
use Rattle.grid.specs.Inside.{centre_at}
use Rattle.grid.specs.Words.{grid_side, row_word}
use Rattle.grid.specs.Trace.{CentresBefore, east-from}
use Rattle.grid.proofs.WordLaws.{word-west, word_same}

module _ (step bound : ℕ) (h : 0 < step) where
  abbrev quotient : ℕ
  quotient = (bound + (step - 1)) / (2 * step)

  before-yes : (c : ℕ) → c < quotient → centre_at step c < bound
  before-yes c l =
      let m : suc c * (2 * step) ≤ bound + (step - 1) = (le-div_iff_mul-le {k = 2 * step} (omega arith)).0 l in
      omega arith

  before-no : (c : ℕ) → quotient ≤ c → bound ≤ centre_at step c
  before-no c l = go (ltb (centre_at step c) bound) refl
    where
      go : (t : Bool) → ltb (centre_at step c) bound ≡ t → bound ≤ centre_at step c
      go true e =
          let d = ltb-true (centre_at step c) bound e in
          let m : suc c * (2 * step) ≤ bound + (step - 1) = omega arith in
          let n : suc c ≤ quotient = (le-div_iff_mul-le {k = 2 * step} (omega arith)).1 m in
          let z : ⊥ = omega arith in
          absurd z
      go false e = ltb-false (centre_at step c) bound e

  splits-at : (c : ℕ) → ltb (centre_at step c) bound ≡ ltb c quotient
  splits-at c = go (ltb c quotient) refl
    where
      go : (t : Bool) → ltb c quotient ≡ t → ltb (centre_at step c) bound ≡ t
      go true e = lt-ltb (centre_at step c) bound (before-yes c (ltb-true c quotient e))
      go false e = le-ltb (centre_at step c) bound (before-no c (ltb-false c quotient e))

  -- the last of the 64 centres lies at 127 steps
  quotient-most : bound ≤ 127 * step → quotient ≤ 64
  quotient-most l = go (ltb 64 quotient) refl
    where
      go : (t : Bool) → ltb 64 quotient ≡ t → quotient ≤ 64
      go true e =
          let d = before-yes 64 (ltb-true 64 quotient e) in
          let z : ⊥ = omega arith in
          absurd z
      go false e = ltb-false 64 quotient e

  pub before-some : bound ≤ 127 * step → CentresBefore step (pos bound) quotient
  before-some l = record { most = quotient-most l; splits = λ c d. splits-at c }

  pub before-all : 127 * step < bound → CentresBefore step (pos bound) 64
  before-all l =
      record {
        most = omega arith;
        splits = λ c d. let m : (2 * c + 1) * step ≤ 127 * step = mul-le-mul (omega arith) (le_refl step) in lt-ltb (centre_at step c) bound (omega arith) ∙ sym (lt-ltb c 64 d);
      }

pub ruleset before-ways = (before-some, before-all)

-- ---- a bound of either sign

-- none lies before a bound that is no further than the first
before-none : (step : ℕ) (bound : ℤ) → le_z bound (pos step) ≡ true → CentresBefore step bound 0
before-none step bound e =
    record {
      most = omega arith;
      splits = λ c d. let m : 1 * step ≤ (2 * c + 1) * step = mul-le-mul (omega arith) (le_refl step) in
          lt-false (pos (centre_at step c)) bound (omega (arith, le_yes bound (pos step) e)) ∙ sym (le-ltb c 0 (omega arith));
    }

pub is_pos : (z : ℤ) → lt_z z (pos 0) ≡ false → z ≡ pos (nat_abs z)
is_pos (pos n) e = refl
is_pos (negsuc n) e = absurd (false≢true (sym e))

not_neg : (z : ℤ) → lt_z z (pos 0) ≡ false → T (non_neg z)
not_neg (pos n) e = tt
not_neg (negsuc n) e = absurd (false≢true (sym e))

-- what a cast of a number that is not negative asks
pub cast-asks : (z : ℤ) → lt_z z (pos 0) ≡ false → SFits w64 z → T (non_neg z) × Fits w64 (nat_abs z)
cast-asks z e f = (not_neg z e, Fits-nat_abs tt f)

-- ---- the cells from the west

pub west-some : (k : ℕ) → k < 64 → 18446744073709551615 - 18446744073709551615 / 2 ^ k ≡ row_word (λ c. ltb c k) grid_side
west-some k h =
    let e : 64 - k + k ≡ 64 = omega arith in
    let s : 2 ^ 64 - 1 ≡ (2 ^ (64 - k) - 1) * 2 ^ k + (2 ^ k - 1) = ap (λ (n : ℕ). 2 ^ n - 1) (sym e) ∙ ones_split (64 - k) k in
    let d : (2 ^ 64 - 1) / 2 ^ k ≡ 2 ^ (64 - k) - 1 = ap (λ (n : ℕ). n / 2 ^ k) s ∙ high (2 ^ (64 - k) - 1) k (ones_lt k) in
    omega (arith, d, word-west k 64 (omega arith), pow_pos (64 - k))

pub west-all : (k : ℕ) → 64 ≤ k → k ≤ 64 → 18446744073709551615 ≡ row_word (λ c. ltb c k) grid_side
west-all k h l =
    let e : k ≡ 64 = omega arith in
    rw e (omega (arith, word-west 64 64 (omega arith)))

-- ---- the signed leaves

module _ (step : ℕ) (bound : ℤ) (f : SFits w64 bound) (g : step ≤ 1600000000000) where
  first_reads : le_z (to_z w64 (of_z w64 bound)) (to_z w64 step) ≡ le_z bound (pos step)
  first_reads = rw (to_z-of_z f, to_z_pos w64 {n = step} (omega arith))

  pub centres-none : le_z (to_z w64 (of_z w64 bound)) (to_z w64 step) ≡ true → CentresBefore step bound 0
  centres-none t = before-none step bound (sym first_reads ∙ t)

  module _ (t : le_z (to_z w64 (of_z w64 bound)) (to_z w64 step) ≡ false) where
    above : lt_z bound (pos 0) ≡ false
    above = lt-false bound (pos 0) (omega (arith, le-no bound (pos step) (sym first_reads ∙ t)))

    pub centres-cast : T (non_neg (to_z w64 (of_z w64 bound))) × Fits w64 (nat_abs (to_z w64 (of_z w64 bound)))
    centres-cast = rw (to_z-of_z f) (cast-asks bound above f)

    pub centres-bound : {m : ℕ} → Within m bound → nat_abs (to_z w64 (of_z w64 bound)) ≤ m
    centres-bound {m} w = rw (to_z-of_z f) w.within

    pub centres-are : (k : ℕ) → CentresBefore step (pos (nat_abs (to_z w64 (of_z w64 bound)))) k → CentresBefore step bound k
    centres-are k b = subst (λ (z : ℤ). CentresBefore step z k) (sym (is_pos bound above)) (rw (to_z-of_z f) at b)

-- how far two heights lie apart, the first north of the second
module _ (n s : ℤ) (wn : Within 80000000 n) (ws : Within 80000000 s) (l : lt_z n s ≡ true) where
  apart-within : Within 160000000 (s -ℤ n)
  apart-within = within-sub ws wn

  apart_above : lt_z (s -ℤ n) (pos 0) ≡ false
  apart_above = lt-false (s -ℤ n) (pos 0) (omega (arith, ints, num n, num s, diff s n))

  module _ (fn : SFits w64 n) (fs : SFits w64 s) where
    pub apart_fits : SFits w64 (to_z w64 (of_z w64 s) -ℤ to_z w64 (of_z w64 n))
    apart_fits = ask-diff s n fs.sfits fn.sfits (lit< tt) apart-within

    apart-reads : to_z w64 (diff-bits s n) ≡ s -ℤ n
    apart-reads = (holds-diff s n fs.sfits fn.sfits (lit< tt) apart-within).reads

    pub apart-cast : T (non_neg (to_z w64 (diff-bits s n))) × Fits w64 (nat_abs (to_z w64 (diff-bits s n)))
    apart-cast = rw apart-reads (cast-asks (s -ℤ n) apart_above (within-fits (lit< tt) apart-within))

    pub apart-is : (cell : ℕ) → nat_abs (to_z w64 (diff-bits s n)) * cell ≡ nat_abs (s -ℤ n) * cell
    apart-is cell = rw apart-reads

    pub apart-times : (cell : ℕ) → cell ≤ 10000 → Fits w64 (nat_abs (to_z w64 (diff-bits s n)) * cell)
    apart-times cell h = rw apart-reads (record { fits = lt_of_le_of_lt (mul-le-mul apart-within.within h) (lit< tt) })

-- ---- the cells west of a crossing

module _ (nx nv sx sv w : ℤ) (wnv : Within 80000000 nv) (wsv : Within 80000000 sv) (ww : Within 80000000 w) (l : lt_z nv w ≡ true) (m : le_z w sv ≡ true) where
  pub ends-apart : lt_z nv sv ≡ true
  ends-apart = lt-true nv sv (omega (arith, ints, num nv, num sv, num w))

  drop-is : sv -ℤ nv ≡ pos (nat_abs (sv -ℤ nv))
  drop-is = is_pos (sv -ℤ nv) (apart_above nv sv wnv wsv ends-apart)

  drop-pos : 0 < nat_abs (sv -ℤ nv)
  drop-pos = let e = ends-apart in omega (arith, ints, num nv, num sv, diff sv nv)

  pub step-pos : (cell : ℕ) → 0 < cell → 0 < nat_abs (sv -ℤ nv) * cell
  step-pos cell h = mul-pos drop-pos h

  pub step-most : (cell : ℕ) → cell ≤ 10000 → nat_abs (sv -ℤ nv) * cell ≤ 1600000000000
  step-most cell h = le_trans (mul-le-mul (apart-within nv sv wnv wsv ends-apart).within h) (lit≤ tt)

  centre-times : (cell c : ℕ) → centre_at (nat_abs (sv -ℤ nv) * cell) c ≡ centre_at cell c * nat_abs (sv -ℤ nv)
  centre-times cell c = omega arith

  -- the columns that a count of centres gives are the cells that the rule gives
  pub crossing_is : (cell k : ℕ) → CentresBefore (nat_abs (sv -ℤ nv) * cell) (nx *ℤ (sv -ℤ w) +ℤ sx *ℤ (w -ℤ nv)) k
      → row_word (λ c. ltb c k) grid_side ≡ row_word (λ c. east-from nx nv sx sv w (pos (centre_at cell c))) grid_side
  unfolding east-from
  crossing_is cell k b =
      word_same (λ c. ltb c k) (λ c. lt_z (pos (centre_at cell c) *ℤ (sv -ℤ nv)) (nx *ℤ (sv -ℤ w) +ℤ sx *ℤ (w -ℤ nv))) grid_side
      (λ c h. sym (b.splits c h) ∙ ap (λ (z : ℤ). lt_z z (nx *ℤ (sv -ℤ w) +ℤ sx *ℤ (w -ℤ nv))) (ap pos (centre-times cell c) ∙ ap (λ (z : ℤ). pos (centre_at cell c) *ℤ z) (sym drop-is)))

abbrev bits : ℤ → ℤ
bits z = to_z w64 (of_z w64 z)

module _ (nx nv sx sv w : ℤ) (fnx : SFits w64 nx) (fnv : SFits w64 nv) (fsx : SFits w64 sx) (fsv : SFits w64 sv) (fw : SFits w64 w)
    (wnx : Within 80000000 nx) (wnv : Within 80000000 nv) (wsx : Within 80000000 sx) (wsv : Within 80000000 sv) (ww : Within 80000000 w)
    (l : lt_z nv w ≡ true) (m : le_z w sv ≡ true) where
  pub crossing-step-asks : (cell : ℕ) → cell ≤ 10000 → Within 80000000 (bits nv) × Within 80000000 (bits sv) × (lt_z (bits nv) (bits sv) ≡ true) × (cell ≤ 10000)
  crossing-step-asks cell h = rw (to_z-of_z fnv, to_z-of_z fsv) (wnv, wsv, ends-apart nx nv sx sv w wnv wsv ww l m, h)

  pub crossing-south : SFits w64 (bits sv -ℤ bits w)
  crossing-south = ask-diff sv w fsv.sfits fw.sfits (lit< tt) (within-sub wsv ww)

  pub crossing-north : SFits w64 (bits w -ℤ bits nv)
  crossing-north = ask-diff w nv fw.sfits fnv.sfits (lit< tt) (within-sub ww wnv)

  south-reads : to_z w64 (diff-bits sv w) ≡ sv -ℤ w
  south-reads = (holds-diff sv w fsv.sfits fw.sfits (lit< tt) (within-sub wsv ww)).reads

  north-reads : to_z w64 (diff-bits w nv) ≡ w -ℤ nv
  north-reads = (holds-diff w nv fw.sfits fnv.sfits (lit< tt) (within-sub ww wnv)).reads

  pub crossing-moment-asks : Within 80000000 (bits nx) × Within 80000000 (bits sx) × Within 160000000 (to_z w64 (diff-bits sv w)) × Within 160000000 (to_z w64 (diff-bits w nv))
  crossing-moment-asks = rw (to_z-of_z fnx, to_z-of_z fsx, south-reads, north-reads) (wnx, wsx, within-sub wsv ww, within-sub ww wnv)

  module _ (step : ℕ) (q : ℤ) (cell : ℕ) (es : step ≡ nat_abs (bits sv -ℤ bits nv) * cell)
      (eq : q ≡ bits nx *ℤ to_z w64 (diff-bits sv w) +ℤ bits sx *ℤ to_z w64 (diff-bits w nv)) (ok : mag q < 2 ^ 63) where
    step_is : step ≡ nat_abs (sv -ℤ nv) * cell
    step_is = rw (to_z-of_z fnv, to_z-of_z fsv) at es

    moment-is : q ≡ nx *ℤ (sv -ℤ w) +ℤ sx *ℤ (w -ℤ nv)
    moment-is = rw (to_z-of_z fnx, to_z-of_z fsx, south-reads, north-reads) at eq

    pub crossing-before-asks : 0 < cell → cell ≤ 10000 → (0 < step) × (step ≤ 1600000000000) × Within 4611686018427387903 (bits q)
    crossing-before-asks h k =
        rw (back q ok, step_is, moment-is) (
          step-pos nx nv sx sv w wnv wsv ww l m cell h,
          step-most nx nv sx sv w wnv wsv ww l m cell k,
          within-le (lit≤ tt) (within-add (within-mul wnx (within-sub wsv ww)) (within-mul wsx (within-sub ww wnv))),
        )

    pub crossing-returns : (k r : ℕ) → CentresBefore step (bits q) k → r ≡ row_word (λ c. ltb c k) grid_side
        → r ≡ row_word (λ c. east-from nx nv sx sv w (pos (centre_at cell c))) grid_side
    crossing-returns k r b e = e ∙ crossing_is nx nv sx sv w wnv wsv ww l m cell k (rw (back q ok, step_is, moment-is) at b)
