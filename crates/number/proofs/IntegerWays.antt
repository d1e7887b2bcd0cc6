-- The ways through the functions of an integer, each with what the code has in hand there. Assumes nothing.
use Prim.Native.Nat.{ℕ, ◌+◌, ◌-◌, ◌*◌, ◌^◌, ◌≤◌, ◌<◌}
use mathlib.Core.Path.{◌≡◌, sym, ◌∙◌}
use mathlib.Core.List.{List}
use mathlib.Core.Bool.{Bool, true, false, not}
use native.Mathlib.Numerals.{add-one}
use native.Mathlib.Nat.{pow-suc, pow-le-pow_right}
use native.Mathlib.Omega.{arith}
use lib.ListN.{length, get_or, take, drop, length-take}
use lib.Dec.{leb}
use mir.Syntax.{w64}
use mir.Val.{Fits}
use borrow.Author.Tests.{eq-eqb, ne_eqb, le-leb, lt-leb, leb-true, not-true, not-false}
use Rattle.std.specs.Prelude.{Some, None}
use Rattle.laws.specs.Lists.{run, all, tail}
use Rattle.laws.proofs.Choice.{and_left, and_right}
use Rattle.laws.proofs.ListLaws.{left, left-none, rest-is, all-run, all_here, all-next}
use Rattle.record.specs.declared.Mode.{Mode}
use Rattle.record.specs.Record.{is_exact}
use Rattle.number.specs.Number.{digit, value, ended, lean, integer_is, integer_at}

-- ---- a digit

module _ (b : ℕ) where
  pub digit_low : b < 48 → digit b ≡ false
  digit_low l = rw (lt-leb 48 b l)

  pub digit-high : 48 ≤ b → 57 < b → digit b ≡ false
  digit-high l u = rw (le-leb 48 b l, lt-leb b 57 u)

  pub digit-is : 48 ≤ b → b ≤ 57 → digit b ≡ true
  digit-is l u = rw (le-leb 48 b l, le-leb b 57 u)

  pub digit-from : digit b ≡ true → 48 ≤ b
  digit-from e = leb-true 48 b (and_left (leb 48 b) (leb b 57) e)

  pub digit-to : digit b ≡ true → b ≤ 57
  digit-to e = leb-true b 57 (and_right (leb 48 b) (leb b 57) e)

pub ruleset digit_tests = (digit_low, digit-high, digit-is)

-- ---- the value of a few digits: after i of them it is below 10 ^ i

pub eight : (i : ℕ) → i ≤ 8 → 10 ^ i ≤ 100000000
eight i h = pow-le-pow_right {n = 10} (omega arith) {i = i} {j = 8} h

module _ (s : List ℕ) (v i : ℕ) where
  pub value-end : length s ≤ i → value 0 s ≡ value v (drop i s) → v ≡ value 0 s
  unfolding value
  value-end h q = sym (q ∙ rw (left-none s i h))

  pub value-below : i ≤ length s → length s ≤ i → v < 10 ^ i → v < 10 ^ length s
  value-below h k l = let e : i ≡ length s = omega arith in rw e at l

  module _ (h : i < length s) (a : all digit (drop i s) ≡ true) where
    here : digit (get_or s i 0) ≡ true
    here = all_here digit s i h a

    pub value-from : 48 ≤ get_or s i 0
    value-from = digit-from (get_or s i 0) here

    module _ (l : v < 10 ^ i) (k : length s ≤ 8) where
      pub value-fits : Fits w64 (v * 10)
      value-fits = record { fits = omega (arith, eight i (omega arith)) }

      module _ (d : ℕ) (e : d ≡ get_or s i 0 - 48) where
        pub value-more : v * 10 + d < 10 ^ (i + 1)
        value-more = rw add-one (omega (arith, pow-suc 10 i, digit-to (get_or s i 0) here))

        pub value-more-fits : Fits w64 (v * 10 + d)
        value-more-fits = record { fits = omega (arith, eight (i + 1) (omega arith), value-more) }

pub value-step : (s : List ℕ) (v i d : ℕ) → i < length s → d ≡ get_or s i 0 - 48 → value 0 s ≡ value v (drop i s)
    → value 0 s ≡ value (v * 10 + d) (drop (i + 1) s)
unfolding value
value-step s v i d h e q = q ∙ rw (left s i 0 h, e)

pub ruleset value_ways = (value-from, value-fits, value-more-fits, value-more, value-step, value-end, value-below, all-next)

-- ---- the integer: n digits stand at the front of t

-- what `value_of` asks of them
module _ (t : List ℕ) (n : ℕ) (q : n ≡ run digit t) where
  pub front_few : n ≤ 8 → length (take n t) ≤ 8
  front_few h = simp length-take (omega arith)

  pub front_digits : all digit (take n t) ≡ true
  front_digits = rw q (all-run digit t)

module _ (mode : Mode) (size : ℕ) (t : List ℕ) (n : ℕ) (q : n ≡ run digit t) where
  pub integer-none : n < 1 → None ≡ integer_at mode size t
  unfolding integer_at integer_is
  integer-none h = rw (← q, lt-leb 1 n h)

  pub integer-many : 4 < n → None ≡ integer_at mode size t
  unfolding integer_at integer_is
  integer-many h = rw (← q, le-leb 1 n (omega arith), lt-leb n 4 h)

  module _ (h : 1 ≤ n) (k : n ≤ 4) (r : Bool) (e : r ≡ ended mode (tail t n)) where
    pub integer-tail : not r ≡ true → None ≡ integer_at mode size t
    unfolding integer_at integer_is
    integer-tail f = rw (← q, le-leb 1 n h, le-leb n 4 k, ← rest-is t n, ← e, not-true r f)

    module _ (f : not r ≡ false) (x : Bool) (o : x ≡ is_exact mode) where
      pub integer-loose : (v : ℕ) → not x ≡ true → v ≡ value 0 (take n t) → Some v ≡ integer_at mode size t
      unfolding integer_at integer_is
      integer-loose v m w = rw (← q, le-leb 1 n h, le-leb n 4 k, ← rest-is t n, ← e, not-false r f, ← o, m, w)

      module _ (m : not x ≡ false) where
        pub integer-size : (size ≡ 4 → ⊥) → None ≡ integer_at mode size t
        unfolding integer_at integer_is
        integer-size a = rw (← q, le-leb 1 n h, le-leb n 4 k, ← rest-is t n, ← e, not-false r f, ← o, m, ne_eqb size 4 a)

        pub integer-more : size ≡ 4 → (length t ≡ n → ⊥) → None ≡ integer_at mode size t
        unfolding integer_at integer_is
        integer-more a b = rw (← q, le-leb 1 n h, le-leb n 4 k, ← rest-is t n, ← e, not-false r f, ← o, m, eq-eqb size 4 a, ne_eqb (length t) n b)

        module _ (a : size ≡ 4) (b : length t ≡ n) (l : Bool) (d : l ≡ lean t n) where
          pub integer-zero : l ≡ false → None ≡ integer_at mode size t
          unfolding integer_at integer_is
          integer-zero g = rw (← q, le-leb 1 n h, le-leb n 4 k, ← rest-is t n, ← e, not-false r f, ← o, m, eq-eqb size 4 a, eq-eqb (length t) n b, ← d, g)

          pub integer-exact : (v : ℕ) → l ≡ true → v ≡ value 0 (take n t) → Some v ≡ integer_at mode size t
          unfolding integer_at integer_is
          integer-exact v g w = rw (← q, le-leb 1 n h, le-leb n 4 k, ← rest-is t n, ← e, not-false r f, ← o, m, eq-eqb size 4 a, eq-eqb (length t) n b, ← d, g, w)

pub ruleset integer_ways = (front_few, front_digits, integer-none, integer-many, integer-tail, integer-loose, integer-size, integer-more, integer-zero, integer-exact)
