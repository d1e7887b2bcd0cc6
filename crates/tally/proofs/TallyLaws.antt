-- Tallies add figure by figure: in any order, in any groups, and the empty tally adds nothing. Figures only grow, so a tally that keeps
-- the limit kept it before each border. Assumes nothing.
use mathlib.Core.Path.{◌≡◌, refl, ap, ap₂}
use mathlib.Core.List.{List, [], ◌∷◌}
use mathlib.Core.Bool.{Bool, true, ◌&&◌}
use Prim.Native.Nat.{ℕ, zero, suc}
use native.Mathlib.Omega.{arith}
use lib.ListN.{length, replicate}
use lib.IntN.{ℤ, pos, ◌+ℤ◌, +ℤ_assoc, +ℤ_comm, +ℤ_idr}
use lib.Signed.{le_z}
use Rattle.laws.proofs.Choice.{and_left, and_right, and_both}
use Rattle.laws.proofs.Parts.{num, sum, ints, le-true}
use Rattle.tally.specs.Tally.{limit, is_figure, is_tally, plus}

pub plus_comm : (s t : List ℤ) → plus s t ≡ plus t s
unfolding plus
plus_comm [] [] = refl
plus_comm [] (b ∷ t) = refl
plus_comm (a ∷ s) [] = refl
plus_comm (a ∷ s) (b ∷ t) = ap₂ (λ (x : ℤ) (u : List ℤ). x ∷ u) (+ℤ_comm a b) (plus_comm s t)

pub plus_assoc : (s t u : List ℤ) → plus (plus s t) u ≡ plus s (plus t u)
unfolding plus
plus_assoc [] t u = refl
plus_assoc (a ∷ s) [] u = refl
plus_assoc (a ∷ s) (b ∷ t) [] = refl
plus_assoc (a ∷ s) (b ∷ t) (c ∷ u) = ap₂ (λ (x : ℤ) (v : List ℤ). x ∷ v) (+ℤ_assoc a b c) (plus_assoc s t u)

pub plus_none : (s : List ℤ) (n : ℕ) → length s ≡ n → plus s (replicate n (pos 0)) ≡ s
unfolding plus
plus_none [] n e = refl
plus_none (a ∷ s) zero e = absurd (omega arith)
plus_none (a ∷ s) (suc n) e = ap₂ (λ (x : ℤ) (u : List ℤ). x ∷ u) (+ℤ_idr a) (plus_none s n (omega arith))

pub plus-length : (s t : List ℤ) → length s ≡ length t → length (plus s t) ≡ length s
unfolding plus
plus-length [] t e = refl
plus-length (a ∷ s) [] e = absurd (omega arith)
plus-length (a ∷ s) (b ∷ t) e = ap suc (plus-length s t (omega arith))

-- ---- a figure is 0 at least, and keeps the limit

module _ (z : ℤ) (e : is_figure z ≡ true) where
  pub figure-from : le_z (pos 0) z ≡ true
  unfolding is_figure
  figure-from = and_left (le_z (pos 0) z) (le_z z (pos limit)) e

  pub figure-to : le_z z (pos limit) ≡ true
  unfolding is_figure
  figure-to = and_right (le_z (pos 0) z) (le_z z (pos limit)) e

-- what both are not negative, and together keep the limit, keeps it by itself
abbrev pub none_below : List ℤ → Bool
none_below [] = true
none_below (z ∷ s) = le_z (pos 0) z && none_below s

pub tally-above : (s : List ℤ) → is_tally s ≡ true → none_below s ≡ true
unfolding is_tally
tally-above [] e = refl
tally-above (z ∷ s) e =
    and_both (le_z (pos 0) z) (none_below s) (figure-from z (and_left (is_figure z) (is_tally s) e)) (tally-above s (and_right (is_figure z) (is_tally s) e))

figure-before : (a b : ℤ) → le_z (pos 0) a ≡ true → le_z (pos 0) b ≡ true → is_figure (a +ℤ b) ≡ true → is_figure a ≡ true
unfolding is_figure
figure-before a b p q e =
    let t = figure-to (a +ℤ b) e in
    and_both (le_z (pos 0) a) (le_z a (pos limit)) p (le-true a (pos limit) (omega (arith, ints, num a, num b, sum a b)))

pub tally-before : (s t : List ℤ) → length s ≡ length t → none_below s ≡ true → none_below t ≡ true → is_tally (plus s t) ≡ true → is_tally s ≡ true
unfolding is_tally plus
tally-before [] t l p q e = refl
tally-before (a ∷ s) [] l p q e = absurd (omega arith)
tally-before (a ∷ s) (b ∷ t) l p q e =
    and_both (is_figure a) (is_tally s)
    (figure-before a b (and_left (le_z (pos 0) a) (none_below s) p) (and_left (le_z (pos 0) b) (none_below t) q) (and_left (is_figure (a +ℤ b)) (is_tally (plus s t)) e))
    (tally-before s t (omega arith) (and_right (le_z (pos 0) a) (none_below s) p) (and_right (le_z (pos 0) b) (none_below t) q) (and_right (is_figure (a +ℤ b)) (is_tally (plus s t)) e))
