-- The spots of a real in the modes that are not exact take what `real_of` takes. Assumes nothing.
use Prim.Native.Nat.{ℕ, zero, suc, ◌+◌, ◌≤◌}
use mathlib.Core.Path.{◌≡◌, refl, sym, ◌∙◌}
use mathlib.Core.List.{List, [], ◌∷◌}
use mathlib.Core.Bool.{Bool, true, false, cond, ◌&&◌, ◌||◌}
use native.Mathlib.Omega.{arith}
use native.Mathlib.Numerals.{add-one, add-four}
use lib.IntN.{ℤ}
use lib.ListN.{get_or, drop}
use lib.Dec.{eqb, leb, leb-zero, leb-suc-zero, leb-suc-suc, eqb-suc-suc, eqb-zero-suc, eqb-suc-zero}
use borrow.Author.Tests.{le-leb, leb-true}
use Rattle.laws.specs.Lists.{run}
use Rattle.laws.proofs.Choice.{and_both, and-false}
use Rattle.std.specs.Prelude.{is_some, Some, None}
use Rattle.record.specs.declared.Mode.{Mode}
use Rattle.record.specs.Record.{is_exact}
use Rattle.number.specs.Words.{blank, unled}
use Rattle.number.specs.Number.{digit, ended, sign_of, signs, signed, thousandths, is_token, real_is, real_at, real_signed, real_of}
use Rattle.column.specs.Spots.{spot_after, is_free, spot_in, may_end, takes}
use Rattle.column.specs.declared.Spot.TheVariants.{LooseReal, AfterSign, UpToPoint, Decimals}
use Rattle.column.proofs.ColumnLaws.{stuck-never}
use Rattle.column.specs.Columns.{accepts_real}
use Rattle.column.proofs.Alike.{alike, both, and-true, digit_not, run-digit, run-other, sign-not}
use Rattle.column.proofs.Integers.{at-most-takes}

-- a digit and k behind it, then what the mode lets stand behind a number
decimals-take : (mode : Mode) (k : ℕ) (t : List ℕ) → takes mode (Decimals k) t ≡ (eqb (run digit t) (suc k) && ended mode (drop (suc k) t))
unfolding takes spot_in is_free spot_after may_end run
decimals-take mode k [] = rw (eqb-zero-suc k)
decimals-take mode k (b ∷ t) = go k (digit b) refl (λ j. decimals-take mode j t)
  where
    last : (n : ℕ) (t : List ℕ) → (leb n 0 && ended mode (drop n t)) ≡ (eqb n 0 && ended mode t)
    last zero t = refl
    last (suc n) t = rw (leb-suc-zero n, eqb-suc-zero n)

    go : (k : ℕ) (d : Bool) → digit b ≡ d → ((j : ℕ) → takes mode (Decimals j) t ≡ (eqb (run digit t) (suc j) && ended mode (drop (suc j) t)))
        → takes mode (spot_after (Decimals k) b) t ≡ (eqb (cond d (suc (run digit t)) 0) (suc k) && ended mode (drop k t))
    go zero true e ih = rw (e, eqb-suc-suc (run digit t) 0) (at-most-takes mode 0 t ∙ last (run digit t) t)
    go (suc k) true e ih = rw (e, eqb-suc-suc (run digit t) (suc k)) (ih k)
    go zero false e ih = rw e (stuck-never mode t)
    go (suc k) false e ih = rw (e, eqb-zero-suc (suc k)) (stuck-never mode t)

-- what follows n digits: the point, three digits, then what may stand behind
pointed : Mode → ℕ → List ℕ → Bool
pointed mode n u = eqb (get_or u n 0) 46 && eqb (run digit (drop (suc n) u)) 3 && ended mode (drop (suc (suc (suc (suc n)))) u)

-- at most k digits more, then that
up-to-point-takes : (mode : Mode) (k : ℕ) (t : List ℕ) → takes mode (UpToPoint k) t ≡ (leb (run digit t) k && pointed mode (run digit t) t)
unfolding takes spot_in is_free spot_after may_end run pointed
up-to-point-takes mode k [] = rw (leb-zero k)
up-to-point-takes mode k (b ∷ t) = go k (digit b) refl (eqb b 46) refl (λ j. up-to-point-takes mode j t)
  where
    go : (k : ℕ) (d : Bool) → digit b ≡ d → (w : Bool) → eqb b 46 ≡ w
        → ((j : ℕ) → takes mode (UpToPoint j) t ≡ (leb (run digit t) j && pointed mode (run digit t) t))
        → takes mode (spot_after (UpToPoint k) b) t ≡ (leb (cond d (suc (run digit t)) 0) k && pointed mode (cond d (suc (run digit t)) 0) (b ∷ t))
    go zero true e w f ih = rw (digit_not b 46 e (omega arith), leb-suc-zero (run digit t)) (stuck-never mode t)
    go (suc k) true e w f ih = rw (digit_not b 46 e (omega arith), e, leb-suc-suc (run digit t) k) (ih k)
    go zero false e true f ih = rw f (decimals-take mode 2 t)
    go zero false e false f ih = rw f (stuck-never mode t)
    go (suc k) false e true f ih = rw (f, leb-zero (suc k)) (decimals-take mode 2 t)
    go (suc k) false e false f ih = rw (f, e, leb-zero (suc k)) (stuck-never mode t)

-- 1 to k digits, then that
after : Mode → ℕ → List ℕ → Bool
after mode k u = leb 1 (run digit u) && leb (run digit u) k && pointed mode (run digit u) u

pointed-on : (mode : Mode) (n b : ℕ) (t : List ℕ) → pointed mode (suc n) (b ∷ t) ≡ pointed mode n t
unfolding pointed
pointed-on mode n b t = refl

after-digit : (mode : Mode) (k b : ℕ) (t : List ℕ) → digit b ≡ true → takes mode (UpToPoint k) t ≡ after mode (suc k) (b ∷ t)
unfolding after
after-digit mode k b t e =
    rw (run-digit b t e, le-leb 1 (suc (run digit t)) (omega arith), leb-suc-suc (run digit t) k, pointed-on mode (run digit t) b t) (up-to-point-takes mode k t)

after-other : (mode : Mode) (k b : ℕ) (t : List ℕ) → digit b ≡ false → after mode k (b ∷ t) ≡ false
unfolding after
after-other mode k b t e = rw (run-other b t e)

signed-takes : (mode : Mode) (t : List ℕ) → takes mode AfterSign t ≡ after mode 7 t
unfolding takes spot_in is_free spot_after may_end
signed-takes mode [] = unfold after run in refl
signed-takes mode (b ∷ t) = go (digit b) refl
  where
    go : (d : Bool) → digit b ≡ d → takes mode (spot_after AfterSign b) t ≡ after mode 7 (b ∷ t)
    go true e = rw e (after-digit mode 6 b t e)
    go false e = rw e (stuck-never mode t ∙ sym (after-other mode 7 b t e))

-- what follows the blanks
signedly : Mode → ℕ → List ℕ → Bool
signedly mode sign t = after mode (cond (eqb sign 0) 8 7) (drop (signs sign) t)

module _ (mode : Mode) (b : ℕ) (c : List ℕ) where
  signedly-sign : (eqb b 43 || eqb b 45) ≡ true → signedly mode (sign_of (b ∷ c)) (b ∷ c) ≡ after mode 7 c
  unfolding signedly sign_of signs
  signedly-sign g = rw (g, sign-not b 0 (omega arith) g)

  signedly-none : (eqb b 43 || eqb b 45) ≡ false → signedly mode (sign_of (b ∷ c)) (b ∷ c) ≡ after mode 8 (b ∷ c)
  unfolding signedly sign_of signs
  signedly-none g = rw g

real-takes : (mode : Mode) (c : List ℕ) → takes mode LooseReal c ≡ signedly mode (sign_of (unled c)) (unled c)
unfolding takes spot_in is_free spot_after may_end run unled
real-takes mode [] = unfold signedly sign_of signs after run in refl
real-takes mode (b ∷ c) = go (blank b) refl (eqb b 43 || eqb b 45) refl (digit b) refl (real-takes mode c)
  where
    go : (w : Bool) → blank b ≡ w → (s : Bool) → (eqb b 43 || eqb b 45) ≡ s → (d : Bool) → digit b ≡ d
        → takes mode LooseReal c ≡ signedly mode (sign_of (unled c)) (unled c)
        → takes mode (spot_after LooseReal b) c ≡ signedly mode (sign_of (drop (cond w (suc (run blank c)) 0) (b ∷ c))) (drop (cond w (suc (run blank c)) 0) (b ∷ c))
    go true f s g d e ih = rw f ih
    go false f true g d e ih = rw (f, g) (signed-takes mode c ∙ sym (signedly-sign mode b c g))
    go false f false g true e ih = rw (f, g, e) (after-digit mode 7 b c e ∙ sym (signedly-none mode b c g))
    go false f false g false e ih = rw (f, g, e) (stuck-never mode c ∙ sym (signedly-none mode b c g ∙ after-other mode 8 b c e))

-- the token's row says the same: a sign leaves room for seven digits
room : (n : ℕ) (z : Bool) → (leb n 8 && leb (cond z 0 1 + n + 4) 12) ≡ leb n (cond z 8 7)
room n z =
    alike (leb n 8 && leb (cond z 0 1 + n + 4) 12) (leb n (cond z 8 7))
    (λ e. let p = both (leb n 8) (leb (cond z 0 1 + n + 4) 12) e in to z (leb-true n 8 p.0) (leb-true (cond z 0 1 + n + 4) 12 p.1))
    (λ e. and_both (leb n 8) (leb (cond z 0 1 + n + 4) 12) (le-leb n 8 (low z (leb-true n (cond z 8 7) e))) (le-leb (cond z 0 1 + n + 4) 12 (back z (leb-true n (cond z 8 7) e))))
  where
    to : (z : Bool) → n ≤ 8 → cond z 0 1 + n + 4 ≤ 12 → leb n (cond z 8 7) ≡ true
    to true h k = le-leb n 8 h
    to false h k = le-leb n 7 (omega arith)

    low : (z : Bool) → n ≤ cond z 8 7 → n ≤ 8
    low true h = h
    low false h = omega arith

    back : (z : Bool) → n ≤ cond z 8 7 → cond z 0 1 + n + 4 ≤ 12
    back true h = omega arith
    back false h = omega arith

shuffle : (a b p t x e : Bool) → (a && b && p && t && x && e) ≡ (a && (b && x) && (p && t && e))
shuffle false b p t x e = refl
shuffle true false p t x e = refl
shuffle true true true true x e = refl
shuffle true true true false x e = sym (and-false x)
shuffle true true false t x e = sym (and-false x)

token-row : (mode : Mode) (sign : ℕ) (u : List ℕ) → (is_token sign u (run digit u) && ended mode (drop (run digit u + 4) u)) ≡ after mode (cond (eqb sign 0) 8 7) u
unfolding is_token after pointed signs
token-row mode sign u =
    let n = run digit u in
    rw (← room n (eqb sign 0), add-one n)
    (shuffle (leb 1 n) (leb n 8) (eqb (get_or u n 0) 46) (eqb (run digit (drop (suc n) u)) 3) (leb (cond (eqb sign 0) 0 1 + n + 4) 12) (ended mode (drop (n + 4) u)) ∙ rw (add-four n))

pub cond-said : (b : Bool) (z : ℤ) → is_some (cond b (Some z) None) ≡ b
cond-said true z = refl
cond-said false z = refl

pub real-loose : (mode : Mode) (c : List ℕ) → is_exact mode ≡ false → accepts_real mode c ≡ takes mode LooseReal c
unfolding accepts_real real_of real_signed real_at real_is
real-loose mode c m =
    let sign = sign_of (unled c) in
    let u = drop (signs sign) (unled c) in
    let n = run digit u in
    let row = is_token sign u n && ended mode (drop (n + 4) u) in
    rw m (cond-said (row && true) (signed sign (thousandths u n)) ∙ and-true row ∙ token-row mode sign u ∙ sym (unfold signedly in real-takes mode c))
