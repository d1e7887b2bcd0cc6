-- The doubled area does not depend on where the ring lies: `area-moved`. Assumes nothing.
use mathlib.Core.Path.{◌≡◌, refl, ap}
use mathlib.Core.List.{List, [], ◌∷◌}
use Prim.Native.Nat.{ℕ, zero, suc, ◌+◌, ◌*◌, ◌<◌}
use native.Mathlib.Omega.{arith}
use lib.ListN.{length}
use lib.IntN.{ℤ, ◌+ℤ◌, ◌-ℤ◌}
use Rattle.laws.proofs.Parts.{num, sum, diff, eq-parts}
use Rattle.plane.specs.Rings.{x-at, y-at}
use Rattle.plane.specs.Areas.{east, north, area_of}
use Rattle.plane.specs.Moved.{moved}
use Rattle.plane.proofs.RingLaws.{held-has}
use Rattle.plane.proofs.AlikeLaws.{area-alike}

diff-moved : (a b d : ℤ) → (a +ℤ d) -ℤ (b +ℤ d) ≡ a -ℤ b
diff-moved a b d =
    eq-parts ((a +ℤ d) -ℤ (b +ℤ d)) (a -ℤ b) (omega (arith, num a, num b, num d, sum a d, sum b d, diff a b, diff (a +ℤ d) (b +ℤ d)))

module _ (dx dy : ℤ) where
  pub length_moved : (ps : List ℤ) → length (moved dx dy ps) ≡ length ps
  unfolding moved
  length_moved [] = refl
  length_moved (x ∷ []) = refl
  length_moved (x ∷ y ∷ ps) = ap (λ (n : ℕ). suc (suc n)) (length_moved ps)

  pub x-moved : (ps : List ℤ) (v : ℕ) → 2 * v + 1 < length ps → x-at (moved dx dy ps) v ≡ x-at ps v +ℤ dx
  unfolding moved
  x-moved [] v h = let z : ⊥ = omega arith in absurd z
  x-moved (x ∷ []) v h = let z : ⊥ = omega arith in absurd z
  x-moved (x ∷ y ∷ ps) zero h = refl
  x-moved (x ∷ y ∷ ps) (suc v) h =
      let e : 2 * suc v ≡ suc (suc (2 * v)) = omega arith in
      rw e (x-moved ps v (omega arith))

  pub y-moved : (ps : List ℤ) (v : ℕ) → 2 * v + 1 < length ps → y-at (moved dx dy ps) v ≡ y-at ps v +ℤ dy
  unfolding moved
  y-moved [] v h = let z : ⊥ = omega arith in absurd z
  y-moved (x ∷ []) v h = let z : ⊥ = omega arith in absurd z
  y-moved (x ∷ y ∷ ps) zero h = refl
  y-moved (x ∷ y ∷ ps) (suc v) h =
      let e : 2 * suc v + 1 ≡ suc (suc (2 * v + 1)) = omega arith in
      rw e (y-moved ps v (omega arith))

  module _ (ps : List ℤ) (from : ℕ) where
    east-moved : (k : ℕ) → 2 * (from + k) + 1 < length ps → east (moved dx dy ps) from k ≡ east ps from k
    unfolding east
    east-moved k h = simp (x-moved ps (from + k) h, x-moved ps from (omega arith)) (diff-moved (x-at ps (from + k)) (x-at ps from) dx)

    north-moved : (k : ℕ) → 2 * (from + k) + 1 < length ps → north (moved dx dy ps) from k ≡ north ps from k
    unfolding north
    north-moved k h = simp (y-moved ps (from + k) h, y-moved ps from (omega arith)) (diff-moved (y-at ps (from + k)) (y-at ps from) dy)

    pub area-moved : (n : ℕ) → area_of (moved dx dy ps) from n ≡ area_of ps from n
    area-moved n =
        area-alike (moved dx dy ps) ps from from n (rw (length_moved ps))
        (λ e k l. let h = held-has (length ps) from n e in (east-moved k (omega arith), north-moved k (omega arith)))
