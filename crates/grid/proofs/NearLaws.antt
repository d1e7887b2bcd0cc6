-- Vertices near the corner: each of them, and one run behind another. Assumes nothing.
use mathlib.Core.Path.{◌≡◌, refl, sym, ◌∙◌, subst}
use mathlib.Core.Logic.{⊎_elim}
use mathlib.Core.Bool.{Bool, true, false, ◌&&◌}
use mathlib.Core.List.{List}
use Prim.Native.Nat.{ℕ, zero, suc, ◌+◌, ◌<◌}
use native.Mathlib.Nat.{add_assoc, add-zero, add-suc, eq-or-lt_of_le, le_of_suc-le-suc, not-suc-le-zero}
use native.Mathlib.Omega.{arith}
use lib.IntN.{ℤ}
use Rattle.laws.proofs.Choice.{and_left, and_right, and_both}
use Rattle.grid.specs.Cells.{near-corner, near-from}

and-true : (a : Bool) → a ≡ (a && true)
and-true true = refl
and-true false = refl

and_assoc : (a b c : Bool) → ((a && b) && c) ≡ (a && (b && c))
and_assoc true b c = refl
and_assoc false b c = refl

module _ (ps : List ℤ) (cx cy : ℤ) (from : ℕ) where
  pub near-each : (n : ℕ) → near-from ps cx cy from n ≡ true → (k : ℕ) → k < n → near-corner ps cx cy (from + k) ≡ true
  unfolding near-from
  near-each zero e k h = absurd (not-suc-le-zero h)
  near-each (suc n) e k h =
      ⊎_elim (λ q. subst (λ (j : ℕ). near-corner ps cx cy (from + j) ≡ true) (sym q) (and_right (near-from ps cx cy from n) (near-corner ps cx cy (from + n)) e))
      (λ l. near-each n (and_left (near-from ps cx cy from n) (near-corner ps cx cy (from + n)) e) k l) (eq-or-lt_of_le (le_of_suc-le-suc h))

  pub near-all : (n : ℕ) → ((k : ℕ) → k < n → near-corner ps cx cy (from + k) ≡ true) → near-from ps cx cy from n ≡ true
  unfolding near-from
  near-all zero f = refl
  near-all (suc n) f = and_both (near-from ps cx cy from n) (near-corner ps cx cy (from + n)) (near-all n (λ k h. f k (omega arith))) (f n (omega arith))

  -- one too far is enough
  pub near-not : (n k : ℕ) → k < n → near-corner ps cx cy (from + k) ≡ false → near-from ps cx cy from n ≡ false
  near-not n k h e = go (near-from ps cx cy from n) refl
    where
      go : (t : Bool) → near-from ps cx cy from n ≡ t → t ≡ false
      go true q = sym (near-each n q k h) ∙ e
      go false q = refl

  pub near-split : (m n : ℕ) → near-from ps cx cy from (m + n) ≡ (near-from ps cx cy from m && near-from ps cx cy (from + m) n)
  unfolding near-from
  near-split m zero = rw (add-zero m) (and-true (near-from ps cx cy from m))
  near-split m (suc n) =
      rw (add-suc m n, ← add_assoc from m n, near-split m n) (and_assoc (near-from ps cx cy from m) (near-from ps cx cy (from + m) n) (near-corner ps cx cy (from + m + n)))
