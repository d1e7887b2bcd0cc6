-- The ways through the functions of a real, each with what the code has in hand there. Assumes nothing.
use Prim.Native.Nat.{ℕ, zero, suc, ◌+◌, ◌-◌, ◌*◌, ◌^◌, ◌≤◌, ◌<◌}
use mathlib.Core.Path.{◌≡◌, sym, ◌∙◌}
use mathlib.Core.List.{List, [], ◌∷◌}
use mathlib.Core.Bool.{Bool, true, false, cond, not, ◌&&◌}
use native.Mathlib.Nat.{pow-le-pow_right}
use native.Mathlib.Omega.{arith}
use lib.ListN.{length, get_or, take, drop, length-take, length-drop, get_or-eq_default}
use lib.Seq.{length-take-le}
use lib.Dec.{eqb, leb}
use lib.IntN.{ℤ, pos, neg_ℤ, ◌-ℤ◌, +ℤ_idl}
use mir.Syntax.{w64}
use mir.Val.{Fits, SFits, to_z, of_z}
use mir.ValLaws.{to_z_pos, to_z-of_z}
use borrow.Author.Tests.{eq-eqb, ne_eqb, le-leb, lt-leb, leb-true, eqb-true, not-true, not-false}
use Rattle.std.specs.Prelude.{Option, Some, None}
use Rattle.laws.specs.Lists.{run, all, tail}
use Rattle.laws.proofs.Choice.{and_left, and_right, cond-elim}
use Rattle.laws.proofs.ListLaws.{rest-is, run-le, all-run}
use Rattle.record.specs.declared.Mode.{Mode}
use Rattle.record.specs.Record.{is_exact}
use Rattle.number.specs.Number.{digit, value, ended, sign_of, signs, signed, thousandths, is_token, is_neat, real_is, real_at, real_signed}
use Rattle.number.proofs.IntegerWays.{eight, front_few, front_digits}

-- ---- the sign

module _ (t : List ℕ) where
  pub sign-none : length t ≡ 0 → 0 ≡ sign_of t
  unfolding sign_of
  sign-none h = rw (get_or-eq_default t 0 {n = 0} (omega arith))

  pub sign-plus : get_or t 0 0 ≡ 43 → get_or t 0 0 ≡ sign_of t
  unfolding sign_of
  sign-plus e = rw (eq-eqb (get_or t 0 0) 43 e)

  module _ (a : get_or t 0 0 ≡ 43 → ⊥) where
    pub sign-minus : get_or t 0 0 ≡ 45 → get_or t 0 0 ≡ sign_of t
    unfolding sign_of
    sign-minus e = rw (ne_eqb (get_or t 0 0) 43 a, eq-eqb (get_or t 0 0) 45 e)

    pub sign-other : (get_or t 0 0 ≡ 45 → ⊥) → 0 ≡ sign_of t
    unfolding sign_of
    sign-other b = rw (ne_eqb (get_or t 0 0) 43 a, ne_eqb (get_or t 0 0) 45 b)

module _ (sign : ℕ) where
  pub signs-zero : sign ≡ 0 → 0 ≡ signs sign
  unfolding signs
  signs-zero e = rw (eq-eqb sign 0 e)

  pub signs-one : (sign ≡ 0 → ⊥) → 1 ≡ signs sign
  unfolding signs
  signs-one e = rw (ne_eqb sign 0 e)

  pub signs-most : signs sign ≤ 1
  unfolding signs
  signs-most = go (eqb sign 0)
    where
      go : (b : Bool) → cond b 0 1 ≤ 1
      go true = omega arith
      go false = omega arith

-- a sign stands at the front, so what it takes is there
signs-le : (t : List ℕ) → signs (sign_of t) ≤ length t
unfolding sign_of signs
signs-le [] = omega arith
signs-le (b ∷ t) = omega (arith, signs-most (sign_of (b ∷ t)))

pub signs-within : (t : List ℕ) (sign k : ℕ) → sign ≡ sign_of t → k ≡ signs sign → k ≤ length t
signs-within t sign k q p = rw (p, q) (signs-le t)

-- ---- a number with its sign

fits-minus : (m : ℕ) → m < 100000000000 → SFits w64 (neg_ℤ (pos m))
fits-minus zero h = record { sfits = omega arith }
fits-minus (suc m) h = record { sfits = omega arith }

fits-plus : (m : ℕ) → m < 100000000000 → SFits w64 (pos m)
fits-plus m h = record { sfits = omega arith }

module _ (m : ℕ) (h : m < 100000000000) where
  as-plus : to_z w64 m ≡ pos m
  as-plus = to_z_pos w64 m (omega arith)

  as-minus : pos 0 -ℤ to_z w64 m ≡ neg_ℤ (pos m)
  as-minus = rw as-plus (+ℤ_idl (neg_ℤ (pos m)))

  pub minus-fits : SFits w64 (pos 0 -ℤ to_z w64 m)
  minus-fits = rw as-minus (fits-minus m h)

  pub minus_is : (sign : ℕ) → sign ≡ 45 → to_z w64 (of_z w64 (pos 0 -ℤ to_z w64 m)) ≡ signed sign m
  unfolding signed
  minus_is sign e = to_z-of_z w64 (pos 0 -ℤ to_z w64 m) minus-fits ∙ as-minus ∙ rw (eq-eqb sign 45 e)

  pub plus-is : (sign : ℕ) → (sign ≡ 45 → ⊥) → to_z w64 m ≡ signed sign m
  unfolding signed
  plus-is sign e = as-plus ∙ rw (ne_eqb sign 45 e)

pub ruleset sign_ways = (sign-none, sign-plus, sign-minus, sign-other, signs-zero, signs-one, minus-fits, minus_is, plus-is)

-- ---- the token

module _ (sign : ℕ) (u : List ℕ) (n : ℕ) where
  pub token-none : n < 1 → false ≡ is_token sign u n
  unfolding is_token
  token-none h = rw (lt-leb 1 n h)

  pub token-many : 8 < n → false ≡ is_token sign u n
  unfolding is_token
  token-many h = rw (le-leb 1 n (omega arith), lt-leb n 8 h)

  module _ (h : 1 ≤ n) (k : n ≤ 8) where
    pub token-point : (get_or u n 0 ≡ 46 → ⊥) → false ≡ is_token sign u n
    unfolding is_token
    token-point e = rw (le-leb 1 n h, le-leb n 8 k, ne_eqb (get_or u n 0) 46 e)

    pub token-cut : length u ≤ n → false ≡ is_token sign u n
    token-cut l = token-point (λ e. let z = get_or-eq_default u 0 {n = n} l in omega arith)

    module _ (p : get_or u n 0 ≡ 46) (m : ℕ) (q : m ≡ run digit (tail u (n + 1))) where
      pub token-places : (m ≡ 3 → ⊥) → false ≡ is_token sign u n
      unfolding is_token
      token-places e = rw (le-leb 1 n h, le-leb n 8 k, eq-eqb (get_or u n 0) 46 p, ← rest-is u (n + 1), ← q, ne_eqb m 3 e)

      module _ (e : m ≡ 3) (g : ℕ) (w : g ≡ signs sign) where
        token-by : leb (g + n + 4) 12 ≡ is_token sign u n
        unfolding is_token
        token-by = rw (le-leb 1 n h, le-leb n 8 k, eq-eqb (get_or u n 0) 46 p, ← rest-is u (n + 1), ← q, eq-eqb m 3 e, w)

        pub token-is : g + n + 4 ≤ 12 → true ≡ is_token sign u n
        token-is l = sym (le-leb (g + n + 4) 12 l) ∙ token-by

        pub token-long : 12 < g + n + 4 → false ≡ is_token sign u n
        token-long l = sym (lt-leb (g + n + 4) 12 l) ∙ token-by

-- three digits past the point are there
pub places-within : (u : List ℕ) (n : ℕ) → run digit (drop (n + 1) u) ≡ 3 → n + 4 ≤ length u
places-within u n h = omega (arith, run-le digit (drop (n + 1) u), length-drop (n + 1) u)

pub ruleset token_ways = (token-none, token-many, token-point, token-cut, token-places, token-is, token-long, signs-most)

-- what a token has
module _ (sign : ℕ) (u : List ℕ) (n : ℕ) (h : is_token sign u n ≡ true) where
  to-places : (leb 1 n && leb n 8 && eqb (get_or u n 0) 46 && eqb (run digit (drop (n + 1) u)) 3) ≡ true
  unfolding is_token
  to-places = and_left _ (leb (signs sign + n + 4) 12) h

  pub token-eight : n ≤ 8
  token-eight =
      leb-true n 8
      (and_right (leb 1 n) (leb n 8) (and_left _ (eqb (get_or u n 0) 46) (and_left _ (eqb (run digit (drop (n + 1) u)) 3) to-places)))

  pub token-three : run digit (drop (n + 1) u) ≡ 3
  token-three = eqb-true _ 3 (and_right (leb 1 n && leb n 8 && eqb (get_or u n 0) 46) _ to-places)

  pub token-twelve : signs sign + n + 4 ≤ 12
  unfolding is_token
  token-twelve =
      leb-true _ 12
      (and_right (leb 1 n && leb n 8 && eqb (get_or u n 0) 46 && eqb (run digit (drop (n + 1) u)) 3) (leb (signs sign + n + 4) 12) h)

-- ---- its value

-- the three digits, as the code cuts them out
abbrev places : List ℕ → ℕ → List ℕ
places u n = take ((n + 4) - (n + 1)) (drop (n + 1) u)

module _ (u : List ℕ) (n : ℕ) where
  places-are : (n + 4) - (n + 1) ≡ 3
  places-are = omega arith

  module _ (h : run digit (drop (n + 1) u) ≡ 3) where
    pub whole-within : n ≡ length (take n u)
    whole-within = sym (length-take-le n u (omega (arith, places-within u n h)))

    pub places_few : length (places u n) ≤ 8
    places_few = rw places-are (simp length-take (omega arith))

    pub places_digits : all digit (places u n) ≡ true
    places_digits = rw places-are (rw (← h) (all-run digit (drop (n + 1) u)))

  pub whole_lt : n ≤ 8 → 10 ^ length (take n u) ≤ 100000000
  whole_lt k = eight (length (take n u)) (simp length-take (omega arith))

  pub places_lt : 10 ^ length (places u n) ≤ 1000
  places_lt =
      let z : length (places u n) ≤ 3 = simp length-take (omega arith) in
      pow-le-pow_right {n = 10} (omega arith) {i = length (places u n)} {j = 3} z

  pub value_is : thousandths u n ≡ value 0 (take n u) * 1000 + value 0 (places u n)
  unfolding thousandths
  value_is = rw places-are

pub ruleset thousand_ways = (front_few, front_digits, places-within, whole-within, places_few, places_digits, whole_lt, places_lt, value_is)

-- ---- the real: n digits stand at the front of u

-- what `thousandths_of` and `is_neat` ask, and what stands behind it begins in the list
module _ (sign : ℕ) (u : List ℕ) (n : ℕ) (r : Bool) (e : r ≡ is_token sign u n) (f : r ≡ true) where
  pub token_most : n ≤ 8
  token_most = token-eight sign u n (sym e ∙ f)

  pub token_places : run digit (drop (n + 1) u) ≡ 3
  token_places = token-three sign u n (sym e ∙ f)

  pub token-within : n + 4 ≤ length u
  token-within = places-within u n token_places

  pub token-fits : Fits w64 (n + 4)
  token-fits = record { fits = omega (arith, token_most) }

-- a signed number in an Option is read back from its bits
pub signed_back : (sign m : ℕ) → m < 100000000000 → to_z w64 (of_z w64 (signed sign m)) ≡ signed sign m
unfolding signed
signed_back sign m h =
    to_z-of_z w64 (signed sign m) (cond-elim (SFits w64) (eqb sign 45) (neg_ℤ (pos m)) (pos m) (λ _. fits-minus m h) (λ _. fits-plus m h))

module _ (mode : Mode) (size sign : ℕ) (u : List ℕ) (n : ℕ) (q : n ≡ run digit u) (r : Bool) (e : r ≡ is_token sign u n) where
  pub real-bad : not r ≡ true → None ≡ real_at mode size sign u
  unfolding real_at real_is
  real-bad f = rw (← q, ← e, not-true r f)

  module _ (f : not r ≡ false) (b : Bool) (g : b ≡ ended mode (tail u (n + 4))) where
    pub real-tail : not b ≡ true → None ≡ real_at mode size sign u
    unfolding real_at real_is
    real-tail h = rw (← q, ← e, not-false r f, ← rest-is u (n + 4), ← g, not-true b h)

    module _ (h : not b ≡ false) (a : Bool) (j : a ≡ is_exact mode) where
      pub real-loose : (z : ℤ) (m : ℕ) → m < 100000000000 → a ≡ false → m ≡ thousandths u n → z ≡ signed sign m → Some (to_z w64 (of_z w64 z)) ≡ real_at mode size sign u
      unfolding real_at real_is
      real-loose z m o l w v = rw (v, signed_back sign m o, ← q, ← e, not-false r f, ← rest-is u (n + 4), ← g, not-false b h, ← j, l, w)

      module _ (x : a ≡ true) (k : Bool) (o : k ≡ is_neat size sign u n) where
        pub real-exact : (z : ℤ) (m : ℕ) → m < 100000000000 → k ≡ true → m ≡ thousandths u n → z ≡ signed sign m → Some (to_z w64 (of_z w64 z)) ≡ real_at mode size sign u
        unfolding real_at real_is
        real-exact z m p l w v = rw (v, signed_back sign m p, ← q, ← e, not-false r f, ← rest-is u (n + 4), ← g, not-false b h, ← j, x, ← o, l, w)

        pub real-untidy : k ≡ false → None ≡ real_at mode size sign u
        unfolding real_at real_is
        real-untidy l = rw (← q, ← e, not-false r f, ← rest-is u (n + 4), ← g, not-false b h, ← j, x, ← o, l)

pub ruleset real_ways = (token_most, token_places, token-within, token-fits, signed_back, real-bad, real-tail, real-loose, real-exact, real-untidy)

pub signed_is : (mode : Mode) (size : ℕ) (t : List ℕ) (sign k : ℕ) (d : Option ℤ) → sign ≡ sign_of t → k ≡ signs sign → d ≡ real_at mode size sign (tail t k)
    → d ≡ real_signed mode size t
unfolding real_signed
signed_is mode size t sign k d q p e = e ∙ rw (rest-is t k, p, q)

pub ruleset signed_ways = (signs-within, signed_is)
