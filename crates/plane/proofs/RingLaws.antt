-- The laws of `held`, `all_near` and `narrow`: each from facts on numbers and vertices, and what each says of them. Assumes nothing.
use mathlib.Core.Path.{◌≡◌, refl, sym, ◌∙◌, subst}
use mathlib.Core.Logic.{⊎_elim}
use mathlib.Core.List.{List}
use mathlib.Core.Bool.{Bool, true, false, ◌&&◌}
use Prim.Native.Nat.{ℕ, zero, suc, ◌+◌, ◌*◌, ◌≤◌, ◌<◌}
use native.Mathlib.Nat.{eq-or-lt_of_le, le_of_suc-le-suc, not-suc-le-zero}
use native.Mathlib.Numerals.{add-one}
use native.Mathlib.Omega.{arith}
use lib.Dec.{leb}
use lib.ListN.{length}
use lib.IntN.{ℤ}
use borrow.Author.Tests.{leb-true, le-leb}
use Rattle.laws.proofs.Choice.{and_left, and_right, and_both}
use Rattle.laws.proofs.Chains.{and-on, and-off, and-off-second}
use Rattle.plane.specs.Rings.{most, held, near_first, all_near, narrow}

-- ---- the table holds the ring

module _ (numbers from n : ℕ) where
  pub held-is : 1 ≤ n → n ≤ most → 2 * (from + n) ≤ numbers → held numbers from n ≡ true
  unfolding held
  held-is a b c = simp (le-leb 1 n a, le-leb n most b, le-leb (2 * (from + n)) numbers c)

  pub held-has : held numbers from n ≡ true → (1 ≤ n) × (n ≤ most) × (2 * (from + n) ≤ numbers)
  unfolding held
  held-has e =
      let r = and_right (leb 1 n) (leb n most && leb (2 * (from + n)) numbers) e in (
        leb-true 1 n (and_left (leb 1 n) (leb n most && leb (2 * (from + n)) numbers) e),
        leb-true n most (and_left (leb n most) (leb (2 * (from + n)) numbers) r),
        leb-true (2 * (from + n)) numbers (and_right (leb n most) (leb (2 * (from + n)) numbers) r),
      )

  pub ruleset ring_held = (held-has)

-- ---- its vertices are near its first

module _ (ps : List ℤ) (from : ℕ) where
  pub near_none : all_near ps from 0 ≡ true
  unfolding all_near
  near_none = refl

  pub near-more : (k : ℕ) → all_near ps from k ≡ true → near_first ps from k ≡ true → all_near ps from (k + 1) ≡ true
  unfolding all_near
  near-more k e q = rw add-one (and_both (all_near ps from k) (near_first ps from k) e q)

  pub near-each : (n : ℕ) → all_near ps from n ≡ true → (k : ℕ) → k < n → near_first ps from k ≡ true
  unfolding all_near
  near-each zero e k h = absurd (not-suc-le-zero h)
  near-each (suc n) e k h =
      ⊎_elim (λ q. subst (λ (j : ℕ). near_first ps from j ≡ true) (sym q) (and_right (all_near ps from n) (near_first ps from n) e))
      (λ l. near-each n (and_left (all_near ps from n) (near_first ps from n) e) k l) (eq-or-lt_of_le (le_of_suc-le-suc h))

  pub near-all : (n : ℕ) → ((k : ℕ) → k < n → near_first ps from k ≡ true) → all_near ps from n ≡ true
  unfolding all_near
  near-all zero f = refl
  near-all (suc n) f = and_both (all_near ps from n) (near_first ps from n) (near-all n (λ k h. f k (omega arith))) (f n (omega arith))

  -- one that is too far is enough
  pub near-not : (n k : ℕ) → k < n → near_first ps from k ≡ false → all_near ps from n ≡ false
  near-not n k h e = go (all_near ps from n) refl
    where
      go : (t : Bool) → all_near ps from n ≡ t → t ≡ false
      go true q = sym (near-each n q k h) ∙ e
      go false q = refl

-- ---- both

module _ (ps : List ℤ) (from n : ℕ) where
  pub narrow-is : held (length ps) from n ≡ true → all_near ps from n ≡ true → true ≡ narrow ps from n
  unfolding narrow
  narrow-is h e = and-on (held (length ps) from n) (all_near ps from n) h (sym e)

  pub narrow-not-held : held (length ps) from n ≡ false → false ≡ narrow ps from n
  unfolding narrow
  narrow-not-held h = and-off (held (length ps) from n) (all_near ps from n) h

  pub narrow-far : (k : ℕ) → k < n → near_first ps from k ≡ false → false ≡ narrow ps from n
  unfolding narrow
  narrow-far k h e = and-off-second (held (length ps) from n) (all_near ps from n) (near-not ps from n k h e)

  pub narrow-near : narrow ps from n ≡ true → all_near ps from n ≡ true
  unfolding narrow
  narrow-near e = and_right (held (length ps) from n) (all_near ps from n) e

  pub narrow-held : narrow ps from n ≡ true → held (length ps) from n ≡ true
  unfolding narrow
  narrow-held e = and_left (held (length ps) from n) (all_near ps from n) e
