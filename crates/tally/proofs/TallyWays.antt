-- The ways through the functions of a tally, each with what the code has in hand there. Assumes nothing.
use mathlib.Core.Path.{◌≡◌, refl, sym, ap, ◌∙◌}
use mathlib.Core.List.{List, [], ◌∷◌}
use mathlib.Core.Bool.{Bool, true, false, ◌&&◌}
use Prim.Native.Nat.{ℕ, zero, suc, ◌+◌, ◌^◌, ◌≤◌, ◌<◌}
use native.Mathlib.Omega.{arith}
use lib.ListN.{get_or}
use lib.IntN.{ℤ, pos, ◌+ℤ◌, ◌-ℤ◌}
use lib.Signed.{mag, lt_z, le_z}
use mir.Syntax.{w64}
use mir.Val.{SFits, to_z, of_z}
use mir.Facts.{to_z-of_z}
use Rattle.std.specs.List.{list_all}
use Rattle.laws.proofs.Choice.{and_left, and_right, and_both}
use Rattle.laws.proofs.Chains.{and-on, and-off, and-off-second}
use Rattle.laws.proofs.Parts.{num, sum, diff, ints, parts-fit, le-true, lt-true, le_not_lt}
use Rattle.tally.proofs.TallyLaws.{figure-from, figure-to}
use Rattle.tally.specs.Tally.{limit, is_figure, is_tally, is_fit}

-- a signed number in a local
abbrev bits : ℤ → ℤ
bits z = to_z w64 (of_z w64 z)

-- ---- a tally

-- std's test of every element is the definition's
pub figures_listed : (s : List ℤ) → list_all is_figure s ≡ is_tally s
unfolding is_tally
figures_listed [] = refl
figures_listed (z ∷ s) = ap (λ (b : Bool). is_figure z && b) (figures_listed s)

pub tally-at : (s : List ℤ) (i : ℕ) → is_tally s ≡ true → is_figure (get_or s i (pos 0)) ≡ true
unfolding is_tally is_figure
tally-at [] i e = refl
tally-at (z ∷ s) zero e = and_left (is_figure z) (is_tally s) e
tally-at (z ∷ s) (suc i) e = tally-at s i (and_right (is_figure z) (is_tally s) e)

-- ---- a figure that grows: the sum keeps the limit just where the figure is at most what is left of it

module _ (z : ℤ) (e : is_figure z ≡ true) where
  pub figure-fits : SFits w64 z
  figure-fits =
      let a = figure-from z e in
      let b = figure-to z e in
      parts-fit z (omega (arith, ints, num z)) (omega (arith, ints, num z))

  left-fits : SFits w64 (pos limit -ℤ z)
  left-fits =
      let a = figure-from z e in
      let b = figure-to z e in
      parts-fit (pos limit -ℤ z) (omega (arith, ints, num z, diff (pos limit) z)) (omega (arith, ints, num z, diff (pos limit) z))

module _ (y z : ℤ) (d : is_figure y ≡ true) (e : is_figure z ≡ true) where
  sum_past : le_z y (pos limit -ℤ z) ≡ false → is_figure (y +ℤ z) ≡ false
  unfolding is_figure
  sum_past t =
      sym (and-off-second (le_z (pos 0) (y +ℤ z)) (le_z (y +ℤ z) (pos limit))
      (le_not_lt (y +ℤ z) (pos limit) true (lt-true (pos limit) (y +ℤ z) (omega (arith, ints, num z, num y, sum y z, diff (pos limit) z)))))

  sum-within : le_z y (pos limit -ℤ z) ≡ true → is_figure (y +ℤ z) ≡ true
  unfolding is_figure
  sum-within t =
      let a = figure-from y d in
      let b = figure-from z e in
      and_both (le_z (pos 0) (y +ℤ z)) (le_z (y +ℤ z) (pos limit)) (le-true (pos 0) (y +ℤ z) (omega (arith, ints, num z, num y, sum y z)))
      (le-true (y +ℤ z) (pos limit) (omega (arith, ints, num z, num y, sum y z, diff (pos limit) z)))

  sum-judged : le_z y (pos limit -ℤ z) ≡ is_figure (y +ℤ z)
  sum-judged = go (le_z y (pos limit -ℤ z)) refl
    where
      go : (t : Bool) → le_z y (pos limit -ℤ z) ≡ t → t ≡ is_figure (y +ℤ z)
      go true t = sym (sum-within t)
      go false t = sym (sum_past t)

-- as the code has it
module _ (y z : ℤ) (f : SFits w64 y) (g : SFits w64 z) {b : Bool} (p : b ≡ is_figure (bits z)) where
  pub fit_none : b ≡ false → b ≡ is_fit y z
  unfolding is_fit
  fit_none t = t ∙ rw (sym (ap is_figure (to_z-of_z g)) ∙ sym p ∙ t)

  module _ (t : b ≡ true) where
    more-is : is_figure z ≡ true
    more-is = sym (ap is_figure (to_z-of_z g)) ∙ sym p ∙ t

    pub fit-asked : SFits w64 (pos limit -ℤ bits z)
    fit-asked = rw (to_z-of_z g) (left-fits z more-is)

    pub fit_is : is_figure y ≡ true → le_z (bits y) (to_z w64 (of_z w64 (pos limit -ℤ bits z))) ≡ is_fit y z
    unfolding is_fit
    fit_is d = rw (to_z-of_z f, to_z-of_z g, to_z-of_z (left-fits z more-is), more-is) (sum-judged y z d more-is)

pub ruleset fit-ways = (fit_none, fit-asked, fit_is)
