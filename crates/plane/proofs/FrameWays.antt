-- A ring's frame: found vertex by vertex, and near its first vertex exactly where all of them are. Assumes nothing.
use mathlib.Core.Path.{◌≡◌, refl, sym, ◌∙◌, subst}
use mathlib.Core.Logic.{⊎_elim}
use mathlib.Core.Bool.{Bool, true, false, cond, ◌&&◌}
use mathlib.Core.List.{List}
use Prim.Native.Nat.{ℕ, ◌+◌, ◌^◌, ◌≤◌, ◌<◌}
use native.Mathlib.Nat.{eq-or-lt_of_le, le_of_suc-le-suc}
use native.Mathlib.Numerals.{add-one}
use native.Mathlib.Omega.{arith}
use lib.ListN.{length}
use lib.IntN.{ℤ, nat_abs, ◌-ℤ◌}
use lib.Signed.{lt_z, le_z, mag}
use mir.Syntax.{w64}
use mir.Val.{to_z, of_z}
use borrow.Author.Tests.{leb-true, le-leb}
use Rattle.laws.specs.Whole.{low_z, high_z}
use Rattle.laws.proofs.Choice.{and_both}
use Rattle.laws.proofs.Chains.{and-off, and-off-second}
use Rattle.laws.proofs.Parts.{P, N, num, diff, lt_yes, lt_no, le_yes, le-true}
use Rattle.laws.proofs.Bits.{back}
use Rattle.plane.specs.Rings.{reach, x-at, y-at, held, near, near_first, narrow}
use Rattle.plane.specs.Frames.{Least, Greatest}
use Rattle.plane.proofs.RingLaws.{narrow-is, narrow-far, near-all}

-- ---- found number by number

le_same : (a : ℤ) → le_z a a ≡ true
le_same a = le-true a a (omega arith)

le_on : (a b c : ℤ) → le_z a b ≡ true → le_z b c ≡ true → le_z a c ≡ true
le_on a b c p q = le-true a c (omega (arith, le_yes a b p, le_yes b c q, num a, num b, num c))

-- of the first n + 1 numbers: one of the first n, or the last
last_or : (P : ℕ → Type 0) (n : ℕ) → ((k : ℕ) → k < n → P k) → P n → (k : ℕ) → k < n + 1 → P k
last_or P n f p k h = ⊎_elim (λ e. subst P (sym e) p) (λ l. f k l) (eq-or-lt_of_le (le_of_suc-le-suc (rw (add-one n) at h)))

module _ (f : ℕ → ℤ) where
  pub least-one : (z : ℤ) → z ≡ f 0 → Least f 1 z
  least-one z e = record { below_all = λ k h. let q : k ≡ 0 = omega arith in rw (q, e) (le_same (f 0)); at_place = 0; among = omega arith; reached = sym e }

  pub greatest-one : (z : ℤ) → z ≡ f 0 → Greatest f 1 z
  greatest-one z e = record { above-all = λ k h. let q : k ≡ 0 = omega arith in rw (q, e) (le_same (f 0)); at_place = 0; among = omega arith; reached = sym e }

  pub least_on : (n : ℕ) (z : ℤ) → Least f n z → Least f (n + 1) (low_z z (f n))
  least_on n z l = go (lt_z z (f n)) refl
    where
      go : (t : Bool) → lt_z z (f n) ≡ t → Least f (n + 1) (cond t z (f n))
      go true e = record { below_all = last_or (λ k. le_z z (f k) ≡ true) n l.below_all (le-true z (f n) (omega (arith, lt_yes z (f n) e))); at_place = l.at_place; among = omega (arith, l.among); reached = l.reached }
      go false e =
          record {
            below_all = last_or (λ k. le_z (f n) (f k) ≡ true) n (λ k h. le_on (f n) z (f k) (le-true (f n) z (omega (arith, lt_no z (f n) e))) (l.below_all k h)) (le_same (f n));
            at_place = n;
            among = omega arith;
            reached = refl;
          }

  pub greatest-on : (n : ℕ) (z : ℤ) → Greatest f n z → Greatest f (n + 1) (high_z z (f n))
  greatest-on n z g = go (lt_z z (f n)) refl
    where
      go : (t : Bool) → lt_z z (f n) ≡ t → Greatest f (n + 1) (cond t (f n) z)
      go true e =
          record {
            above-all = last_or (λ k. le_z (f k) (f n) ≡ true) n (λ k h. le_on (f k) z (f n) (g.above-all k h) (le-true z (f n) (omega (arith, lt_yes z (f n) e)))) (le_same (f n));
            at_place = n;
            among = omega arith;
            reached = refl;
          }
      go false e = record { above-all = last_or (λ k. le_z (f k) z ≡ true) n g.above-all (le-true (f n) z (omega (arith, lt_no z (f n) e))); at_place = g.at_place; among = omega (arith, g.among); reached = g.reached }

-- ---- what the loop has in hand

-- a number of the table, read back from a local
abbrev bits : ℤ → ℤ
bits z = to_z w64 (of_z w64 z)

pub first-least : (f : ℕ → ℤ) (z : ℤ) → z ≡ f 0 → mag z < 2 ^ 63 → Least f 1 (bits z)
first-least f z e ok = rw (back z ok) (least-one f z e)

pub first-greatest : (f : ℕ → ℤ) (z : ℤ) → z ≡ f 0 → mag z < 2 ^ 63 → Greatest f 1 (bits z)
first-greatest f z e ok = rw (back z ok) (greatest-one f z e)

pub next-least : (f : ℕ → ℤ) (n : ℕ) (low x z : ℤ) → Least f n low → x ≡ f n → mag x < 2 ^ 63 → z ≡ low_z low (bits x) → mag z < 2 ^ 63 → Least f (n + 1) (bits z)
next-least f n low x z l e ox q oz = rw (back z oz, q, back x ox, e) (least_on f n low l)

pub next-greatest : (f : ℕ → ℤ) (n : ℕ) (high x z : ℤ) → Greatest f n high → x ≡ f n → mag x < 2 ^ 63 → z ≡ high_z high (bits x) → mag z < 2 ^ 63 → Greatest f (n + 1) (bits z)
next-greatest f n high x z g e ox q oz = rw (back z oz, q, back x ox, e) (greatest-on f n high g)

-- ---- near the first vertex

-- what lies between two numbers that are near is near
below-near : (o b z : ℤ) → near o b ≡ true → le_z z b ≡ true → P (z -ℤ o) ≤ reach
unfolding near
below-near o b z q m = omega (arith, leb-true (nat_abs (b -ℤ o)) reach q, le_yes z b m, diff b o, diff z o)

above-near : (o a z : ℤ) → near o a ≡ true → le_z a z ≡ true → N (z -ℤ o) ≤ reach
unfolding near
above-near o a z q m = omega (arith, leb-true (nat_abs (a -ℤ o)) reach q, le_yes a z m, diff a o, diff z o)

between-near : (o a b z : ℤ) → near o a ≡ true → near o b ≡ true → le_z a z ≡ true → le_z z b ≡ true → near o z ≡ true
unfolding near
between-near o a b z p q l m = le-leb (nat_abs (z -ℤ o)) reach (omega (arith, below-near o b z q m, above-near o a z p l, num (z -ℤ o)))

module _ (ps : List ℤ) (from n : ℕ) (w e s t : ℤ) (lx : Least (λ k. x-at ps (from + k)) n w) (gx : Greatest (λ k. x-at ps (from + k)) n e)
    (ly : Least (λ k. y-at ps (from + k)) n s) (gy : Greatest (λ k. y-at ps (from + k)) n t) (h : held (length ps) from n ≡ true) where
  west-far : near (x-at ps from) w ≡ false → narrow ps from n ≡ false
  unfolding near_first
  west-far q = sym (narrow-far ps from n lx.at_place lx.among (sym (and-off (near (x-at ps from) (x-at ps (from + lx.at_place))) (near (y-at ps from) (y-at ps (from + lx.at_place))) (rw lx.reached q))))

  east-far : near (x-at ps from) e ≡ false → narrow ps from n ≡ false
  unfolding near_first
  east-far q = sym (narrow-far ps from n gx.at_place gx.among (sym (and-off (near (x-at ps from) (x-at ps (from + gx.at_place))) (near (y-at ps from) (y-at ps (from + gx.at_place))) (rw gx.reached q))))

  south-far : near (y-at ps from) s ≡ false → narrow ps from n ≡ false
  unfolding near_first
  south-far q = sym (narrow-far ps from n ly.at_place ly.among (sym (and-off-second (near (x-at ps from) (x-at ps (from + ly.at_place))) (near (y-at ps from) (y-at ps (from + ly.at_place))) (rw ly.reached q))))

  north-far : near (y-at ps from) t ≡ false → narrow ps from n ≡ false
  unfolding near_first
  north-far q = sym (narrow-far ps from n gy.at_place gy.among (sym (and-off-second (near (x-at ps from) (x-at ps (from + gy.at_place))) (near (y-at ps from) (y-at ps (from + gy.at_place))) (rw gy.reached q))))

  all_in : near (x-at ps from) w ≡ true → near (x-at ps from) e ≡ true → near (y-at ps from) s ≡ true → near (y-at ps from) t ≡ true → narrow ps from n ≡ true
  unfolding near_first
  all_in a b c d =
      sym (narrow-is ps from n h (near-all ps from n (λ k l. and_both (near (x-at ps from) (x-at ps (from + k))) (near (y-at ps from) (y-at ps (from + k)))
      (between-near (x-at ps from) w e (x-at ps (from + k)) a b (lx.below_all k l) (gx.above-all k l)) (between-near (y-at ps from) s t (y-at ps (from + k)) c d (ly.below_all k l) (gy.above-all k l)))))

  -- the frame tells
  pub frame-narrow : (near (x-at ps from) w && (near (x-at ps from) e && (near (y-at ps from) s && near (y-at ps from) t))) ≡ narrow ps from n
  frame-narrow = go (near (x-at ps from) w) (near (x-at ps from) e) (near (y-at ps from) s) (near (y-at ps from) t) refl refl refl refl
    where
      go : (a b c d : Bool) → near (x-at ps from) w ≡ a → near (x-at ps from) e ≡ b → near (y-at ps from) s ≡ c → near (y-at ps from) t ≡ d → (a && (b && (c && d))) ≡ narrow ps from n
      go false b c d p q r u = sym (west-far p)
      go true false c d p q r u = sym (east-far q)
      go true true false d p q r u = sym (south-far r)
      go true true true false p q r u = sym (north-far u)
      go true true true true p q r u = sym (all_in p q r u)
