-- Spelling and reading are inverse: exact mode reads what is spelt as the number, and takes nothing else for it. Assumes nothing.
use Prim.Native.Nat.{ℕ, zero, suc, ◌+◌, ◌-◌, ◌*◌, ◌/◌, ◌%◌, ◌^◌, ◌≤◌, ◌<◌, zero-le}
use mathlib.Core.Path.{◌≡◌, refl, sym, ◌∙◌, ap}
use mathlib.Core.List.{List, [], ◌∷◌, ◌++◌}
use mathlib.Core.Bool.{Bool, true, false, cond, not, ◌&&◌, ◌||◌}
use native.Mathlib.Numerals.{add-one}
use native.Mathlib.Omega.{arith}
use lib.ListN.{length, get_or, take, drop, replicate, length-append, length-drop, length-replicate, take-append-drop, drop_of_length-le, get_or-append}
use lib.Seq.{take_all, take-length, drop-length, drop_at, take_at, split_at, length-take-le, get_or-take, get_or-append_seam, drop-append-add}
use lib.Dec.{leb, eqb}
use lib.IntN.{ℤ, pos, negsuc, nat_abs}
use borrow.Author.Tests.{le-ltb, le-leb, leb-true, ne_eqb, eq-eqb, eqb-true, eqb-false, not-true}
use Rattle.std.specs.Prelude.{Some, None}
use Rattle.laws.specs.Lists.{run, all}
use Rattle.laws.proofs.Choice.{and_left, and_right, and_both, false≢true, cond-first}
use Rattle.laws.proofs.ListLaws.{run-le, run_past, run_none, run-whole, all-run, all-each, all_whole, all-weaken, all_alike, all_append, alike}
use Rattle.record.specs.declared.Mode.TheVariants.{Exact}
use Rattle.record.specs.Record.{plain}
use Rattle.number.specs.Words.{blank, unled}
use Rattle.number.specs.Number.{digit, value, ended, lean, integer_is, integer_at, integer_of, sign_of, signs, signed, thousandths, is_token, is_neat, real_is, real_at, real_signed, real_of, is_real}
use Rattle.spelling.specs.Spelling.{integer_most, digits, places, aligned, integer_text, minus, decimal, bare_real, real_text}
use Rattle.spelling.proofs.DigitLaws.{digit_low, digit-high, digits-all, digits-some, digits-most, digits-fit, digits-lean, digits_value, digits-only, places-length, places-all, places-value, places-only, value-below}

-- ---- `aligned`

pub aligned-length : (w : ℕ) (s : List ℕ) → length s ≤ w → length (aligned w s) ≡ w
unfolding aligned
aligned-length w s h = omega (arith, length-append (replicate (w - length s) 32) s, length-replicate {A = ℕ} (w - length s) 32)

-- the blanks in front are those that reading drops
pub aligned-unled : (w : ℕ) (s : List ℕ) → run blank s ≡ 0 → unled (aligned w s) ≡ s
unfolding unled aligned
aligned-unled w s e =
    let k = w - length s in
    let l : length (replicate {A = ℕ} k 32) ≡ k = length-replicate k 32 in
    let r : run blank (replicate k 32 ++ s) ≡ k = omega (arith, run_past blank (replicate k 32) s (all_alike blank k 32 refl)) in
    rw r (drop_at (replicate k 32) s k l)

-- and blanks before what reading keeps are all that a content has
unled-aligned : (c : List ℕ) → aligned (length c) (unled c) ≡ c
unfolding unled aligned
unled-aligned c =
    let k = run blank c in
    let n : length (take k c) ≡ k = length-take-le k c (run-le blank c) in
    let a : take k c ≡ replicate k 32 = alike 32 (take k c) (all-run blank c) ∙ rw n in
    let m : length c - length (drop k c) ≡ k = omega (arith, length-drop k c, run-le blank c) in
    rw (m, ← a) (take-append-drop k c)

-- a digit comes first
first-digit : (s t : List ℕ) → all digit s ≡ true → 1 ≤ length s → digit (get_or (s ++ t) 0 0) ≡ true
first-digit s t e h = rw (get_or-append s t 0 0 h) (all-each digit s 0 e h)

pub no-blank : (s : List ℕ) → digit (get_or s 0 0) ≡ true → run blank s ≡ 0
no-blank s e = run_none blank s (ne_eqb (get_or s 0 0) 32 (λ q. omega (arith, digit_low (get_or s 0 0) e)))

-- ---- integers

-- lean digits, aligned, are read as their value
integer-reads : (s : List ℕ) → all digit s ≡ true → lean s (length s) ≡ true → 1 ≤ length s → length s ≤ 4
    → integer_of Exact (aligned 4 s) ≡ Some (value 0 s)
unfolding integer_of integer_at integer_is ended all
integer-reads s e l h k =
    rw (
      aligned-length 4 s k,
      aligned-unled 4 s (no-blank s (all-each digit s 0 e h)),
      run-whole digit s e,
      le-leb 1 (length s) h,
      le-leb (length s) 4 k,
      drop-length s,
      eq-eqb (length s) (length s) refl,
      l,
      take-length s,
    )

-- exact mode reads a spelt integer as itself
pub integer-spelt : (v : ℕ) → v ≤ integer_most → integer_of Exact (integer_text v) ≡ Some v
unfolding integer_text
integer-spelt v h =
    integer-reads (digits 4 v) (digits-all 4 v) (digits-lean 4 v (omega arith)) (digits-some 4 v (omega arith)) (digits-most 4 v)
    ∙ ap Some (digits_value 4 v (omega arith))

-- what exact mode has of an integer's content: `t` after the blanks, n digits in front of it
record Taken (size : ℕ) (t : List ℕ) (n v : ℕ) : Type 0 where
  some : 1 ≤ n
  few : n ≤ 4
  wide : size ≡ 4
  full : length t ≡ n
  neat : lean t n ≡ true
  is : value 0 (take n t) ≡ v

integer-taken : (size : ℕ) (t : List ℕ) (n v : ℕ) → integer_is Exact size t n ≡ Some v → Taken size t n v
unfolding integer_is
integer-taken size t n v q =
    let refused : None ≡ Some v → ⊥ = λ x. let i : ◌≡◌ {A = ℕ} 0 1 = cc in omega arith in
    let row = leb 1 n && leb n 4 && ended Exact (drop n t) in
    let more = eqb size 4 && eqb (length t) n in
    let r = cond-first (row && (more && lean t n)) (Some (value 0 (take n t))) None (Some v) refused q in
    let a = and_left row (more && lean t n) r.0 in
    let b = and_right row (more && lean t n) r.0 in
    let c = and_left (leb 1 n && leb n 4) (ended Exact (drop n t)) a in
    let d = and_left more (lean t n) b in
    let e : Some (value 0 (take n t)) ≡ Some v = r.1 in
    record {
      some = leb-true 1 n (and_left (leb 1 n) (leb n 4) c);
      few = leb-true n 4 (and_right (leb 1 n) (leb n 4) c);
      wide = eqb-true size 4 (and_left (eqb size 4) (eqb (length t) n) d);
      full = eqb-true (length t) n (and_right (eqb size 4) (eqb (length t) n) d);
      neat = and_right more (lean t n) b;
      is = cc;
    }

-- exact mode takes nothing else for it
pub integer-only : (c : List ℕ) (v : ℕ) → integer_of Exact c ≡ Some v → c ≡ integer_text v
unfolding integer_of integer_at integer_text
integer-only c v q =
    let t = unled c in
    let k = integer-taken (length c) t (run digit t) v q in
    let x : take (run digit t) t ≡ t = take_all (run digit t) t (omega arith) in
    let w : value 0 t ≡ v = rw x at k.is in
    let d : digits 4 (value 0 t) ≡ t
    = digits-only 4 t (all_whole digit t (sym k.full)) (rw k.full k.neat) (omega arith) (omega arith) in
    sym (rw (← w, d, ← k.wide) (unled-aligned c))

-- ---- reals

-- digits, a point and three digits, as reading cuts them
module _ (d p : List ℕ) where
  abbrev token : List ℕ
  token = d ++ 46 ∷ p

  token-point : get_or token (length d) 0 ≡ 46
  token-point = get_or-append_seam d 46 p 0

  token-places : drop (length d + 1) token ≡ p
  token-places = drop-append-add d (46 ∷ p) 1

  token-run : all digit d ≡ true → run digit token ≡ length d
  unfolding run
  token-run e = omega (arith, run_past digit d (46 ∷ p) e)

  module _ (three : length p ≡ 3) where
    token-length : length token ≡ length d + 4
    token-length = omega (arith, length-append d (46 ∷ p))

    token-value : thousandths token (length d) ≡ value 0 d * 1000 + value 0 p
    unfolding thousandths
    token-value = rw (take_at d (46 ∷ p) (length d) refl, token-places, take_all 3 p (omega arith))

-- the test for a minus zero
minus-passes : (sign m : ℕ) → (sign ≡ 45 → m ≡ 0 → ⊥) → not (eqb sign 45 && eqb m 0) ≡ true
minus-passes sign m f = go (eqb sign 45) refl (eqb m 0) refl
  where
    go : (x : Bool) → eqb sign 45 ≡ x → (y : Bool) → eqb m 0 ≡ y → not (x && y) ≡ true
    go true e true g = absurd (f (eqb-true sign 45 e) (eqb-true m 0 g))
    go true e false g = refl
    go false e y g = refl

minus-passed : (sign m : ℕ) → not (eqb sign 45 && eqb m 0) ≡ true → sign ≡ 45 → m ≡ 0 → ⊥
minus-passed sign m e s z = false≢true (rw (eq-eqb sign 45 s, eq-eqb m 0 z) at e)

-- such a token is read as its value
module _ (sign : ℕ) (d p : List ℕ) (digits_in : all digit d ≡ true) (neat : lean d (length d) ≡ true) (some : 1 ≤ length d)
    (places-in : all digit p ≡ true) (three : length p ≡ 3) (fits : signs sign + length d ≤ 8) (plus : sign ≡ 43 → ⊥)
    (nought : sign ≡ 45 → value 0 d * 1000 + value 0 p ≡ 0 → ⊥) where
  token-is : is_token sign (token d p) (length d) ≡ true
  unfolding is_token
  token-is =
      let y : run digit p ≡ 3 = run-whole digit p places-in ∙ three in
      let a : length d ≤ 8 = omega arith in
      let b : signs sign + length d + 4 ≤ 12 = omega arith in
      rw (le-leb 1 (length d) some, le-leb (length d) 8 a, token-point d p, token-places d p, y, le-leb (signs sign + length d + 4) 12 b)

  token-ends : ended Exact (drop (length d + 4) (token d p)) ≡ true
  unfolding ended all
  token-ends = rw (drop_of_length-le (token d p) {i = length d + 4} (omega (arith, token-length d p three)))

  token-neat : is_neat 12 sign (token d p) (length d) ≡ true
  unfolding is_neat lean
  token-neat =
      rw (
        token-length d p three,
        eq-eqb (length d + 4) (length d + 4) refl,
        ne_eqb sign 43 plus,
        token-value d p three,
        minus-passes sign (value 0 d * 1000 + value 0 p) nought,
        get_or-append d (46 ∷ p) 0 0 some,
        neat,
      )

  token-reads : real_at Exact 12 sign (token d p) ≡ Some (signed sign (value 0 d * 1000 + value 0 p))
  unfolding real_at real_is
  token-reads = rw (token-run d p digits_in, token-is, token-ends, token-neat, token-value d p three)

-- the digits and places of a number in thousandths make such a token
module _ (m : ℕ) where
  whole_part : m < 100000000000 → value 0 (digits 8 (m / 1000)) * 1000 + value 0 (places 3 (m % 1000)) ≡ m
  whole_part h = omega (arith, digits_value 8 (m / 1000) (omega arith), places-value 3 (m % 1000) (omega arith))

  decimal-reads : (sign : ℕ) → m < 100000000000 → signs sign + length (digits 8 (m / 1000)) ≤ 8 → (sign ≡ 43 → ⊥) → (sign ≡ 45 → m ≡ 0 → ⊥)
      → real_at Exact 12 sign (decimal m) ≡ Some (signed sign m)
  unfolding decimal
  decimal-reads sign h k plus nought =
      let d = digits 8 (m / 1000) in
      let p = places 3 (m % 1000) in
      token-reads sign d p (digits-all 8 (m / 1000)) (digits-lean 8 (m / 1000) (omega arith)) (digits-some 8 (m / 1000) (omega arith))
      (places-all 3 (m % 1000)) (places-length 3 (m % 1000)) k plus (rw (whole_part h) nought)
      ∙ rw (whole_part h)

  decimal-first : digit (get_or (decimal m) 0 0) ≡ true
  unfolding decimal
  decimal-first = first-digit (digits 8 (m / 1000)) (46 ∷ places 3 (m % 1000)) (digits-all 8 (m / 1000)) (digits-some 8 (m / 1000) (omega arith))

  pub decimal-length : length (decimal m) ≡ length (digits 8 (m / 1000)) + 4
  unfolding decimal
  decimal-length = token-length (digits 8 (m / 1000)) (places 3 (m % 1000)) (places-length 3 (m % 1000))

pub minus-none : (a : ℕ) → minus (pos a) ≡ []
unfolding minus
minus-none a = rw (le-ltb a 0 zero-le)

-- a digit is no sign
no_sign : (u : List ℕ) → digit (get_or u 0 0) ≡ true → sign_of u ≡ 0
unfolding sign_of
no_sign u e =
    let h = digit_low (get_or u 0 0) e in
    rw (ne_eqb (get_or u 0 0) 43 (λ q. omega arith), ne_eqb (get_or u 0 0) 45 (λ q. omega arith))

-- the two ends of the range
pub in-plus : (a : ℕ) → is_real (pos a) ≡ true → a ≤ 99999999999
unfolding is_real
in-plus a e = leb-true a 99999999999 e

pub in-minus : (a : ℕ) → is_real (negsuc a) ≡ true → a ≤ 9999999998
unfolding is_real
in-minus a e = leb-true a 9999999998 (and_left (leb a 9999999998) true e)

-- a minus leaves room for seven digits
seven : (a : ℕ) → is_real (negsuc a) ≡ true → length (digits 8 (suc a / 1000)) ≤ 7
seven a h = digits-fit 8 7 (suc a / 1000) (omega arith) (omega (arith, in-minus a h))

pub body-length : (z : ℤ) → is_real z ≡ true → length (minus z ++ decimal (nat_abs z)) ≤ 12
unfolding minus
body-length (pos a) h = rw (minus-none a) (omega (arith, decimal-length a, digits-most 8 (a / 1000)))
body-length (negsuc a) h = omega (arith, decimal-length (suc a), seven a h)

-- the body of a real's text, after its blanks
body_reads : (z : ℤ) → is_real z ≡ true → real_signed Exact 12 (minus z ++ decimal (nat_abs z)) ≡ Some z
unfolding real_signed minus signs signed sign_of
body_reads (pos a) h =
    rw (minus-none a, no_sign (decimal a) (decimal-first a))
    (decimal-reads a 0 (omega (arith, in-plus a h)) (omega (arith, digits-most 8 (a / 1000))) (λ e. omega arith) (λ e. absurd (omega arith)))
body_reads (negsuc a) h =
    decimal-reads (suc a) 45 (omega (arith, in-minus a h)) (omega (arith, seven a h)) (λ e. omega arith) (λ e f. omega arith)

body-blanks : (z : ℤ) → run blank (minus z ++ decimal (nat_abs z)) ≡ 0
unfolding minus
body-blanks (pos a) = rw (minus-none a) (no-blank (decimal a) (decimal-first a))
body-blanks (negsuc a) = run_none blank (45 ∷ decimal (suc a)) refl

-- exact mode reads a spelt real as itself
pub real-spelt : (z : ℤ) → is_real z ≡ true → real_of Exact (real_text z) ≡ Some z
unfolding real_of real_text bare_real
real-spelt z h =
    let s = minus z ++ decimal (nat_abs z) in
    rw (aligned-length 12 s (body-length z h), aligned-unled 12 s (body-blanks z)) (body_reads z h)

-- what exact mode has of a real's content: `u` after the sign, n digits in front of it
record Read (size sign : ℕ) (u : List ℕ) (n : ℕ) (z : ℤ) : Type 0 where
  some : 1 ≤ n
  few : n ≤ 8
  point : get_or u n 0 ≡ 46
  three : run digit (drop (n + 1) u) ≡ 3
  wide : size ≡ 12
  full : length u ≡ n + 4
  plus : sign ≡ 43 → ⊥
  nought : sign ≡ 45 → thousandths u n ≡ 0 → ⊥
  neat : lean u n ≡ true
  is : signed sign (thousandths u n) ≡ z

real_read : (size sign : ℕ) (u : List ℕ) (n : ℕ) (z : ℤ) → real_is Exact size sign u n ≡ Some z → Read size sign u n z
unfolding real_is is_token is_neat
real_read size sign u n z q =
    let refused : None ≡ Some z → ⊥ = λ x. let i : ◌≡◌ {A = ℕ} 0 1 = cc in omega arith in
    let front = leb 1 n && leb n 8 in
    let point = eqb (get_or u n 0) 46 in
    let three = eqb (run digit (drop (n + 1) u)) 3 in
    let end = ended Exact (drop (n + 4) u) in
    let width = leb (signs sign + n + 4) 12 in
    let size_is = eqb size 12 in
    let full = eqb (length u) (n + 4) in
    let plus = not (eqb sign 43) in
    let nought = not (eqb sign 45 && eqb (thousandths u n) 0) in
    let whole = front && point && three && width in
    let rest = size_is && full && plus && nought && lean u n in
    let r = cond-first (whole && end && rest) (Some (signed sign (thousandths u n))) None (Some z) refused q in
    let a = and_left (front && point && three) width (and_left whole end (and_left (whole && end) rest r.0)) in
    let b = and_left (front && point) three a in
    let c = and_left front point b in
    let d = and_right (whole && end) rest r.0 in
    let e = and_left (size_is && full && plus && nought) (lean u n) d in
    let f = and_left (size_is && full && plus) nought e in
    let g = and_left (size_is && full) plus f in
    let w : Some (signed sign (thousandths u n)) ≡ Some z = r.1 in
    record {
      some = leb-true 1 n (and_left (leb 1 n) (leb n 8) c);
      few = leb-true n 8 (and_right (leb 1 n) (leb n 8) c);
      point = eqb-true (get_or u n 0) 46 (and_right front point b);
      three = eqb-true (run digit (drop (n + 1) u)) 3 (and_right (front && point) three a);
      wide = eqb-true size 12 (and_left size_is full g);
      full = eqb-true (length u) (n + 4) (and_right size_is full g);
      plus = eqb-false sign 43 (not-true (eqb sign 43) (and_right (size_is && full) plus f));
      nought = minus-passed sign (thousandths u n) (and_right (size_is && full && plus) nought e);
      neat = and_right (size_is && full && plus && nought) (lean u n) d;
      is = cc;
    }

-- such a token is the decimal of its value
decimal-only : (d p : List ℕ) → all digit d ≡ true → lean d (length d) ≡ true → 1 ≤ length d → length d ≤ 8 → all digit p ≡ true → length p ≡ 3
    → decimal (value 0 d * 1000 + value 0 p) ≡ token d p
unfolding decimal
decimal-only d p e l h k f three =
    let b : value 0 p < 1 * 10 ^ 3 = rw three at (value-below p 0 1 f (omega arith)) in
    let x : (value 0 d * 1000 + value 0 p) / 1000 ≡ value 0 d = omega arith in
    let y : (value 0 d * 1000 + value 0 p) % 1000 ≡ value 0 p = omega arith in
    rw (x, y, digits-only 8 d e l h k, places-only 3 p f three)

lean-front : (u : List ℕ) (n : ℕ) → 1 ≤ n → n ≤ length u → lean u n ≡ true → lean (take n u) (length (take n u)) ≡ true
unfolding lean
lean-front u n h k e = rw (length-take-le n u k, get_or-take n u 0 0 h) e

-- what exact mode read is a decimal
decimal-read : (size sign : ℕ) (u : List ℕ) (z : ℤ) → Read size sign u (run digit u) z → decimal (thousandths u (run digit u)) ≡ u
decimal-read size sign u z k =
    let n = run digit u in
    let d = take n u in
    let p = drop (n + 1) u in
    let l : length d ≡ n = length-take-le n u (omega (arith, k.full)) in
    let three : length p ≡ 3 = omega (arith, k.full, length-drop (n + 1) u) in
    let q : token d p ≡ u = sym (split_at u n 0 (omega (arith, k.full)) ∙ rw (k.point, ← add-one n)) in
    let v : thousandths u n ≡ value 0 d * 1000 + value 0 p = rw (q, l) at (token-value d p three) in
    let f = lean-front u n k.some (omega (arith, k.full)) k.neat in
    rw v (decimal-only d p (all-run digit u) f (omega (arith, k.some)) (omega (arith, k.few)) (all_whole digit p (k.three ∙ sym three)) three ∙ q)

-- a sign that exact mode reads is the sign of what it read
record Signed (m sign : ℕ) (t : List ℕ) : Type 0 where
  text : minus (signed sign m) ++ drop (signs sign) t ≡ t
  size : nat_abs (signed sign m) ≡ m

sign-none : (m : ℕ) (t : List ℕ) → Signed m 0 t
unfolding signs signed
sign-none m t = record { text = rw (minus-none m); size = refl }

sign-minus : (m : ℕ) (t : List ℕ) → (m ≡ 0 → ⊥) → Signed m 45 (45 ∷ t)
unfolding signs signed minus
sign-minus zero t f = absurd (f refl)
sign-minus (suc m) t f = record { text = refl; size = refl }

sign_read : (m : ℕ) (t : List ℕ) → (sign_of t ≡ 43 → ⊥) → (sign_of t ≡ 45 → m ≡ 0 → ⊥) → Signed m (sign_of t) t
unfolding sign_of
sign_read m [] f g = sign-none m []
sign_read m (b ∷ t) f g = go (eqb b 43) refl (eqb b 45) refl f g
  where
    go : (x : Bool) → eqb b 43 ≡ x → (y : Bool) → eqb b 45 ≡ y → (cond (x || y) b 0 ≡ 43 → ⊥) → (cond (x || y) b 0 ≡ 45 → m ≡ 0 → ⊥)
        → Signed m (cond (x || y) b 0) (b ∷ t)
    go true e y h f g = absurd (f (eqb-true b 43 e))
    go false e true h f g = rw (eqb-true b 45 h) (sign-minus m t (g (eqb-true b 45 h)))
    go false e false h f g = sign-none m (b ∷ t)

-- exact mode takes nothing else for it
pub real-only : (c : List ℕ) (z : ℤ) → real_of Exact c ≡ Some z → c ≡ real_text z
unfolding real_of real_signed real_at real_text bare_real
real-only c z q =
    let t = unled c in
    let u = drop (signs (sign_of t)) t in
    let n = run digit u in
    let k = real_read (length c) (sign_of t) u n z q in
    let s = sign_read (thousandths u n) t k.plus k.nought in
    let a : nat_abs z ≡ thousandths u n = rw k.is at s.size in
    let b : minus z ++ u ≡ t = rw k.is at s.text in
    sym (rw (a, decimal-read (length c) (sign_of t) u z k, b, ← k.wide) (unled-aligned c))

-- ---- what a text is made of

-- an integer's text has 4 characters
pub integer-length : (v : ℕ) → length (integer_text v) ≡ 4
unfolding integer_text
integer-length v = aligned-length 4 (digits 4 v) (digits-most 4 v)

-- a real's has 12
pub real-length : (z : ℤ) → is_real z ≡ true → length (real_text z) ≡ 12
unfolding real_text bare_real
real-length z h = aligned-length 12 (minus z ++ decimal (nat_abs z)) (body-length z h)

digit-plain : (b : ℕ) → digit b ≡ true → plain b ≡ true
digit-plain b e =
    and_both (leb 32 b) (leb b 126) (le-leb 32 b (omega (arith, digit_low b e))) (le-leb b 126 (omega (arith, digit-high b e)))

digits-plain : (w n : ℕ) → all plain (digits w n) ≡ true
digits-plain w n = all-weaken digit plain digit-plain (digits w n) (digits-all w n)

aligned-plain : (w : ℕ) (s : List ℕ) → all plain s ≡ true → all plain (aligned w s) ≡ true
unfolding aligned
aligned-plain w s e = rw (all_append plain (replicate (w - length s) 32) s, all_alike plain (w - length s) 32 refl, e)

decimal-plain : (m : ℕ) → all plain (decimal m) ≡ true
unfolding decimal all
decimal-plain m =
    let p = places 3 (m % 1000) in
    rw (all_append plain (digits 8 (m / 1000)) (46 ∷ p), digits-plain 8 (m / 1000), all-weaken digit plain digit-plain p (places-all 3 (m % 1000)))

-- every character of an integer's text is one that a record may hold
pub integer-plain : (v : ℕ) → all plain (integer_text v) ≡ true
unfolding integer_text
integer-plain v = aligned-plain 4 (digits 4 v) (digits-plain 4 v)

-- and of a real's
pub real-plain : (z : ℤ) → all plain (real_text z) ≡ true
unfolding real_text bare_real minus all
real-plain (pos a) = aligned-plain 12 (minus (pos a) ++ decimal a) (rw (minus-none a) (decimal-plain a))
real-plain (negsuc a) = aligned-plain 12 (45 ∷ decimal (suc a)) (decimal-plain (suc a))
