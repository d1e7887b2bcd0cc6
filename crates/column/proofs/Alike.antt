-- Rows of tests that come to the same; bytes told apart. Assumes nothing.
use Prim.Native.Nat.{ℕ, suc, ◌<◌}
use mathlib.Core.Path.{◌≡◌, refl, sym, ap}
use mathlib.Core.List.{List, ◌∷◌}
use mathlib.Core.Bool.{Bool, true, false, ◌&&◌, ◌||◌}
use native.Mathlib.Omega.{arith}
use lib.Dec.{eqb}
use borrow.Author.Tests.{ne_eqb, eqb-true}
use Rattle.laws.specs.Lists.{run}
use Rattle.laws.proofs.Choice.{and_left, and_right, false≢true}
use Rattle.number.specs.Number.{digit}
use Rattle.number.specs.Words.{blank}
use Rattle.number.proofs.IntegerWays.{digit-from}

pub alike : (a b : Bool) → (a ≡ true → b ≡ true) → (b ≡ true → a ≡ true) → a ≡ b
alike true true f g = refl
alike true false f g = sym (f refl)
alike false true f g = g refl
alike false false f g = refl

pub never : (a : Bool) → (a ≡ true → ⊥) → a ≡ false
never true f = absurd (f refl)
never false f = refl

pub both : (a b : Bool) → (a && b) ≡ true → (a ≡ true) × (b ≡ true)
both a b e = (and_left a b e, and_right a b e)

pub and-true : (a : Bool) → (a && true) ≡ a
and-true true = refl
and-true false = refl

-- a digit is no other sort of byte
pub digit_not : (b k : ℕ) → digit b ≡ true → (k < 48 → eqb b k ≡ false)
digit_not b k e h = ne_eqb b k (λ q. absurd (omega (arith, digit-from b e)))

pub blank-no-digit : (b : ℕ) → blank b ≡ true → digit b ≡ false
blank-no-digit b e = ap digit (eqb-true b 32 e)

pub or-true : (a : Bool) → (a || true) ≡ true
or-true true = refl
or-true false = refl

pub or-false : (a : Bool) → (a || false) ≡ a
or-false true = refl
or-false false = refl

pub run-digit : (b : ℕ) (t : List ℕ) → digit b ≡ true → run digit (b ∷ t) ≡ suc (run digit t)
unfolding run
run-digit b t e = rw e

pub run-other : (b : ℕ) (t : List ℕ) → digit b ≡ false → run digit (b ∷ t) ≡ 0
unfolding run
run-other b t e = rw e

pub sign-not : (b k : ℕ) → k < 43 → (eqb b 43 || eqb b 45) ≡ true → eqb b k ≡ false
sign-not b k h e = go (eqb b 43) refl e
  where
    go : (x : Bool) → eqb b 43 ≡ x → (x || eqb b 45) ≡ true → eqb b k ≡ false
    go true f e = ne_eqb b k (λ q. absurd (omega (arith, eqb-true b 43 f)))
    go false f e = ne_eqb b k (λ q. absurd (omega (arith, eqb-true b 45 e)))

pub four : (a b c d : Bool) → (a && b && c && d) ≡ true → (a ≡ true) × (b ≡ true) × (c ≡ true) × (d ≡ true)
four true true true true e = (refl, refl, refl, refl)
four true true true false e = (refl, refl, refl, e)
four true true false d e = absurd (false≢true e)
four true false c d e = absurd (false≢true e)
four false b c d e = absurd (false≢true e)

pub five : (a b c d f : Bool) → (a && b && c && d && f) ≡ true → (a ≡ true) × (b ≡ true) × (c ≡ true) × (d ≡ true) × (f ≡ true)
five a b c d f e =
    let p = both (a && b && c && d) f e in
    let q = four a b c d p.0 in
    (q.0, q.1, q.2, q.3, p.1)

pub off : (a b c : Bool) → (a && b && false && c) ≡ false
off true true c = refl
off true false c = refl
off false b c = refl
