-- Behind an LF, twelve bytes of which each may stand behind the one before are a real as exact mode has it. Assumes nothing.
use Rattle.std.proofs.Common.{◌≡◌, ℕ, zero, suc, ◌+◌, ◌-◌, ◌%◌, ◌^◌, ◌<◌, ◌≤◌, Bool, true, false, not, ◌&&◌, ◌||◌, eqb, leb, List, length, get_or, take, drop, sym, refl, ◌∙◌, arith, length-take-le, get_or-take, ne_eqb, eqb-true, leb-false, leb-true}
use borrow.Author.Tests.{eqb-false, lt-leb, not-true}
use Rattle.laws.specs.Lists.{run, all, below}
use Rattle.laws.proofs.Choice.{and_left, and_right, and-false}
use Rattle.laws.proofs.ListLaws.{left, all-run, all-each, run-le, run-fails}
use Rattle.number.specs.Words.{blank}
use Rattle.number.specs.Number.{digit, lean}
use Rattle.number.proofs.IntegerWays.{digit-from, digit-is}
use Rattle.quick.specs.Neat.{Figured, Sound}
use Rattle.quick.specs.Neighbours.{follows}
use Rattle.quick.proofs.Twelve.{lean-last, lean-yes, figured-is}
use Rattle.quick.proofs.Tokens.{sound-plus, sound-minus}

-- a subtraction that wraps and one test, for a test from both sides
pub digit-test : (b x : ℕ) → x < 256 → (x + 48) % 2 ^ 8 ≡ b → leb x 9 ≡ digit b
digit-test b x h e = go (leb x 9) refl
  where
    out : 9 < x → digit b ≡ false
    out l = two (leb 48 b) refl
      where
        two : (t : Bool) → leb 48 b ≡ t → (t && leb b 57) ≡ false
        two false q = refl
        two true q = let g = leb-true 48 b q in lt-leb b 57 (omega arith)

    go : (t : Bool) → leb x 9 ≡ t → t ≡ digit b
    go true q = let l = leb-true x 9 q in sym (digit-is b (omega arith) (omega arith))
    go false q = sym (out (leb-false x 9 q))

pub follows_is : (a b : ℕ) (x y : Bool) → x ≡ digit b → y ≡ digit a
    → ((x && (y || not (eqb b 48))) || ((eqb a 32 || eqb a 10) && (eqb b 32 || eqb b 45))) ≡ follows a b
unfolding follows
follows_is a b x y e f = rw (e, f)

-- eight tests at once
pub below-eight : (p : ℕ → Bool) (a b c d e f g h : Bool) → a ≡ p 0 → b ≡ p 1 → c ≡ p 2 → d ≡ p 3 → e ≡ p 4 → f ≡ p 5 → g ≡ p 6 → h ≡ p 7
    → (a && b && c && d && e && f && g && h) ≡ true → below 8 p ≡ true
unfolding below
below-eight p a b c d e f g h ea eb ec ed ee ef eg eh q =
    let r = and_left (a && b && c && d && e && f && g) h q in
    let s = and_left (a && b && c && d && e && f) g r in
    let t = and_left (a && b && c && d && e) f s in
    let u = and_left (a && b && c && d) e t in
    let v = and_left (a && b && c) d u in
    let w = and_left (a && b) c v in
    rw (
      sym eh ∙ and_right (a && b && c && d && e && f && g) h q,
      sym eg ∙ and_right (a && b && c && d && e && f) g r,
      sym ef ∙ and_right (a && b && c && d && e) f s,
      sym ee ∙ and_right (a && b && c && d) e t,
      sym ed ∙ and_right (a && b && c) d u,
      sym ec ∙ and_right (a && b) c v,
      sym eb ∙ and_right a b w,
      sym ea ∙ and_left a b w,
    )

-- ---- what stands behind what

or-none : (x : Bool) → (x || false) ≡ true → x ≡ true
or-none true e = refl
or-none false e = e

after-digit : (a b : ℕ) → digit a ≡ true → follows a b ≡ true → digit b ≡ true
unfolding follows
after-digit a b d e =
    let h = digit-from a d in
    let k : ((digit b && true) || false) ≡ true = rw (d, ne_eqb a 32 (omega arith), ne_eqb a 10 (omega arith)) at e in
    and_left (digit b) true (or-none (digit b && true) k)

-- a digit that is no zero
abbrev Leads : ℕ → Type 0
Leads b = (digit b ≡ true) × (b ≡ 48 → ⊥)

leads : (b : ℕ) → (digit b && not (eqb b 48)) ≡ true → Leads b
leads b e = (and_left (digit b) (not (eqb b 48)) e, eqb-false b 48 (not-true (eqb b 48) (and_right (digit b) (not (eqb b 48)) e)))

after_minus : (b : ℕ) → follows 45 b ≡ true → Leads b
unfolding follows
after_minus b e = leads b (or-none (digit b && not (eqb b 48)) e)

-- behind what is no digit, if neither a blank nor a minus stands there
after-other : (a b : ℕ) → digit a ≡ false → follows a b ≡ true → (b ≡ 32 → ⊥) → (b ≡ 45 → ⊥) → Leads b
unfolding follows
after-other a b d e m n =
    let k : ((digit b && not (eqb b 48)) || false) ≡ true = rw (d, ne_eqb b 32 m, ne_eqb b 45 n, and-false (eqb a 32 || eqb a 10)) at e in
    leads b (or-none (digit b && not (eqb b 48)) k)

module _ (c : List ℕ) (size : length c ≡ 12) (p : get_or c 8 0 ≡ 46) (t : run digit (drop 9 c) ≡ 3) (u : 48 ≤ get_or c 7 0)
    (front : follows 10 (get_or c 0 0) ≡ true) (pair : (i : ℕ) → i ≤ 6 → follows (get_or c i 0) (get_or c (i + 1) 0) ≡ true) where
  -- digits up to the point
  digits-on : (n i : ℕ) → i + n ≡ 7 → digit (get_or c i 0) ≡ true → all digit (take (suc n) (drop i c)) ≡ true
  unfolding all
  digits-on zero i h d = rw (left c i 0 (omega arith), d)
  digits-on (suc n) i h d =
      rw (left c i 0 (omega arith), d) (digits-on n (i + 1) (omega arith) (after-digit (get_or c i 0) (get_or c (i + 1) 0) d (pair i (omega arith))))

  blank-before : (i : ℕ) → i < run blank c → get_or c i 0 ≡ 32
  blank-before i h =
      let l : length (take (run blank c) c) ≡ run blank c = length-take-le (run blank c) c (run-le blank c) in
      let e : blank (get_or (take (run blank c) c) i 0) ≡ true = all-each blank (take (run blank c) c) i (all-run blank c) (omega arith) in
      eqb-true (get_or c i 0) 32 (rw (get_or-take (run blank c) c i 0 h) at e)

  few-blanks : run blank c ≤ 7
  few-blanks = go (leb (run blank c) 7) refl
    where
      go : (b : Bool) → leb (run blank c) 7 ≡ b → run blank c ≤ 7
      go true e = leb-true (run blank c) 7 e
      go false e = let l = leb-false (run blank c) 7 e in absurd (omega (arith, blank-before 7 (omega arith)))

  figured : (d : ℕ) → d ≤ 7 → Leads (get_or c d 0) → Figured c d
  figured d h l =
      let o : 8 - d ≡ suc (7 - d) = omega arith in
      figured-is c d true true size p (omega arith, rw o (digits-on (7 - d) d (omega arith) l.0)) h (thin (eqb d 7) refl) refl (λ _. t) refl
    where
      thin : (b : Bool) → eqb d 7 ≡ b → true ≡ lean (drop d c) (8 - d)
      thin true f = lean-last c d (eqb-true d 7 f)
      thin false f = lean-yes c d h (eqb-false d 7 f) l.1

  module _ (k : ℕ) (r : k ≡ run blank c) where
    few : k ≤ 7
    few = omega (arith, few-blanks)

    no-blank : get_or c k 0 ≡ 32 → ⊥
    no-blank = eqb-false (get_or c k 0) 32 (rw (← r) at (run-fails blank c (omega (arith, few-blanks))))

    -- without a sign the first digit stands behind the LF or a blank
    unsigned : (get_or c k 0 ≡ 45 → ⊥) → Leads (get_or c k 0)
    unsigned m = go (eqb k 0) refl
      where
        go : (b : Bool) → eqb k 0 ≡ b → Leads (get_or c k 0)
        go true f = after-other 10 (get_or c k 0) refl (rw (eqb-true k 0 f) front) no-blank m
        go false f =
            let o : k ≡ 0 → ⊥ = eqb-false k 0 f in
            let i : k - 1 + 1 ≡ k = omega arith in
            let g : follows 32 (get_or c k 0) ≡ true = rw (blank-before (k - 1) (omega arith), i) at (pair (k - 1) (omega (arith, few))) in
            after-other 32 (get_or c k 0) refl g no-blank m

    signed-few : get_or c k 0 ≡ 45 → k ≤ 6
    signed-few e = go (eqb k 7) refl
      where
        go : (b : Bool) → eqb k 7 ≡ b → k ≤ 6
        go true f = let g : get_or c 7 0 ≡ 45 = rw (eqb-true k 7 f) at e in absurd (omega arith)
        go false f = let o : k ≡ 7 → ⊥ = eqb-false k 7 f in omega (arith, few)

    sound-at : Sound c
    sound-at = go (eqb (get_or c k 0) 45) refl
      where
        go : (y : Bool) → eqb (get_or c k 0) 45 ≡ y → Sound c
        go false m = sound-plus c k k size p (figured k few (unsigned (eqb-false (get_or c k 0) 45 m))) r (omega (arith, few)) refl
        go true m =
            let e = eqb-true (get_or c k 0) 45 m in
            let l = after_minus (get_or c (k + 1) 0) (rw e at (pair k (signed-few e))) in
            sound-minus c (k + 1) k size p (figured (k + 1) (omega (arith, signed-few e)) l) r (omega (arith, few)) refl e l.1

  pub neighbours-sound : Sound c
  neighbours-sound = sound-at (run blank c) refl

pub ruleset are_neighbours_ways = (below-eight)

pub ruleset is_digit_ways = (digit-test)
