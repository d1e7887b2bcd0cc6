-- Tests and choices. Assumes nothing.
use mathlib.Core.Path.{◌≡◌, refl}
use mathlib.Core.Bool.{Bool, true, false, cond, ◌&&◌}
use Prim.Native.Nat.{ℕ}
use native.Mathlib.Omega.{arith}

pub true≢false : true ≡ false → ⊥
true≢false e = let z : ◌≡◌ {A = ℕ} 0 1 = cc in omega arith

pub false≢true : false ≡ true → ⊥
false≢true e = let z : ◌≡◌ {A = ℕ} 0 1 = cc in omega arith

pub and_left : (a b : Bool) → (a && b) ≡ true → a ≡ true
and_left true b e = refl
and_left false b e = e

pub and_right : (a b : Bool) → (a && b) ≡ true → b ≡ true
and_right true b e = e
and_right false b e = absurd (false≢true e)

pub and_both : (a b : Bool) → a ≡ true → b ≡ true → (a && b) ≡ true
and_both true b e f = f
and_both false b e f = e

pub and-false : (a : Bool) → (a && false) ≡ false
and-false true = refl
and-false false = refl

-- what holds of both choices holds of the one that is made
pub cond-elim {ℓ κ} : {X : Type ℓ} (Q : X → Type κ) (b : Bool) (x y : X) → (b ≡ true → Q x) → (b ≡ false → Q y) → Q (cond b x y)
cond-elim Q true x y f g = f refl
cond-elim Q false x y f g = g refl

pub cond-true {ℓ} : {X : Type ℓ} (b : Bool) (x y : X) → b ≡ true → cond b x y ≡ x
cond-true true x y e = refl
cond-true false x y e = absurd (false≢true e)

pub cond-false {ℓ} : {X : Type ℓ} (b : Bool) (x y : X) → b ≡ false → cond b x y ≡ y
cond-false true x y e = absurd (true≢false e)
cond-false false x y e = refl

-- a choice that gave what its second branch never gives was made for the first
pub cond-first {ℓ} : {X : Type ℓ} (b : Bool) (x y w : X) → (y ≡ w → ⊥) → cond b x y ≡ w → (b ≡ true) × (x ≡ w)
cond-first true x y w n e = (refl, e)
cond-first false x y w n e = absurd (n e)
