-- What one mode takes, a wider one takes with the same value; what the former reading alone takes has a note; the ranges of integers and reals. Assumes nothing.
use Prim.Native.Nat.{ℕ, zero, suc, ◌+◌, ◌-◌, ◌*◌, ◌^◌, ◌≤◌, ◌<◌}
use mathlib.Core.Path.{◌≡◌, refl, sym, ◌∙◌}
use mathlib.Core.List.{List, [], ◌∷◌}
use mathlib.Core.Bool.{Bool, true, false, cond, not, ◌&&◌, ◌||◌}
use native.Mathlib.Nat.{pow-suc, pow-le-pow_right, mul_comm, mul_assoc}
use native.Mathlib.Omega.{arith}
use lib.ListN.{length, take, drop, length-take}
use lib.Dec.{eqb, leb}
use lib.IntN.{ℤ, pos, neg_ℤ}
use borrow.Author.Tests.{le-leb, leb-true, eqb-true, not-true}
use Rattle.std.specs.Prelude.{Option, Some, None}
use Rattle.laws.specs.Lists.{run, all}
use Rattle.laws.proofs.Choice.{and_left, and_right, and_both, and-false, cond-elim, cond-first, false≢true}
use Rattle.laws.proofs.ListLaws.{all-run}
use Rattle.record.specs.declared.Mode.{Mode}
use Rattle.record.specs.declared.Mode.TheVariants.{Loose, Exact, Former}
use Rattle.record.specs.Record.{is_exact, is_former, widens}
use Rattle.record.proofs.RecordLaws.{rule-widens}
use Rattle.number.specs.Words.{blank, unled}
use Rattle.number.specs.Number.{digit, value, parted, ended, is_note, lean, integer_is, integer_at, integer_of, behind_integer, sign_of, signs, signed, thousandths, is_token, is_neat, real_is, real_at, real_signed, real_of, unsigned, behind_real, is_real}
use Rattle.number.proofs.IntegerWays.{digit-to}
use Rattle.number.proofs.RealWays.{token-eight, token-three, token-twelve}

-- ---- the modes

no_whole : (v : ℕ) → None ≡ Some v → ⊥
no_whole v e = let z : ◌≡◌ {A = ℕ} 0 1 = cc in omega arith

no-decimal : (v : ℤ) → None ≡ Some v → ⊥
no-decimal v e = let z : ◌≡◌ {A = ℕ} 0 1 = cc in omega arith

-- blanks alone begin with a blank, or are none
blanks-part : (s : List ℕ) → all blank s ≡ true → parted s ≡ true
unfolding parted all
blanks-part [] e = refl
blanks-part (b ∷ s) e = and_left (blank b) (all blank s) e

-- nothing may stand behind a number; behind a blank, blanks or in the former reading anything; behind nothing else
pub ended-nothing : (mode : Mode) → ended mode [] ≡ true
unfolding ended parted all
ended-nothing Loose = refl
ended-nothing Exact = refl
ended-nothing Former = refl

module _ (mode : Mode) (b : ℕ) (s : List ℕ) where
  pub ended-blank : blank b ≡ true → ended mode (b ∷ s) ≡ (is_former mode || all blank s)
  unfolding ended parted all
  ended-blank e = rw e (go (is_former mode))
    where
      go : (x : Bool) → cond x true (all blank s) ≡ (x || all blank s)
      go true = refl
      go false = refl

  pub ended-other : blank b ≡ false → ended mode (b ∷ s) ≡ false
  unfolding ended parted all
  ended-other e = rw e (go (is_former mode))
    where
      go : (x : Bool) → cond x false false ≡ false
      go true = refl
      go false = refl

-- what may stand behind a number in one mode, may do so in a wider one
pub ended-widens : (from to : Mode) → widens from to ≡ true → (s : List ℕ) → ended from s ≡ true → ended to s ≡ true
unfolding ended
ended-widens Loose Loose w s e = e
ended-widens Loose Exact w s e = absurd (false≢true w)
ended-widens Loose Former w s e = blanks-part s e
ended-widens Exact Loose w s e = e
ended-widens Exact Exact w s e = e
ended-widens Exact Former w s e = blanks-part s e
ended-widens Former Loose w s e = absurd (false≢true w)
ended-widens Former Exact w s e = absurd (false≢true w)
ended-widens Former Former w s e = e

-- a row of tests, the end and the mode's own rule last
module _ (from to : Mode) (wide : widens from to ≡ true) (a x : Bool) (s : List ℕ) where
  row-widens : {A : Type 0} (y z w : A) → (z ≡ w → ⊥) → cond (a && ended from s && (not (is_exact from) || x)) y z ≡ w
      → cond (a && ended to s && (not (is_exact to) || x)) y z ≡ w
  row-widens y z w n h =
      let t = cond-first (a && ended from s && (not (is_exact from) || x)) y z w n h in
      let l = and_left (a && ended from s) (not (is_exact from) || x) t.0 in
      let m = and_both a (ended to s) (and_left a (ended from s) l) (ended-widens from to wide s (and_right a (ended from s) l)) in
      rw (and_both (a && ended to s) (not (is_exact to) || x) m (rule-widens from to wide x (and_right (a && ended from s) (not (is_exact from) || x) t.0))) t.1

module _ (from to : Mode) (wide : widens from to ≡ true) (c : List ℕ) where
  -- an integer that one mode takes, a wider one takes with the same value
  pub integer-widens : (v : ℕ) → integer_of from c ≡ Some v → integer_of to c ≡ Some v
  unfolding integer_of integer_at integer_is
  integer-widens v h =
      let t = unled c in
      let n = run digit t in
      row-widens from to wide (leb 1 n && leb n 4) (eqb (length c) 4 && eqb (length t) n && lean t n) (drop n t) (Some (value 0 (take n t))) None
      (Some v) (no_whole v) h

  -- a real that one mode takes, a wider one takes with the same value
  pub real-widens : (z : ℤ) → real_of from c ≡ Some z → real_of to c ≡ Some z
  unfolding real_of real_signed real_at real_is
  real-widens z h =
      let sign = sign_of (unled c) in
      let u = drop (signs sign) (unled c) in
      let n = run digit u in
      row-widens from to wide (is_token sign u n) (is_neat (length c) sign u n) (drop (n + 4) u) (Some (signed sign (thousandths u n))) None (Some z)
      (no-decimal z) h

-- ---- notes

-- a row of tests that the former reading passes and loose mode does not: a note
row-note : {A : Type 0} (a x : Bool) (s : List ℕ) (y z w : A) → (z ≡ w → ⊥) → cond (a && ended Former s && (true || x)) y z ≡ w
    → cond (a && ended Loose s && (true || x)) y z ≡ z → (y ≡ z → ⊥) → is_note s ≡ true
unfolding ended is_note
row-note a x s y z w n h k m =
    let t = cond-first (a && parted s && true) y z w n h in
    let l = and_left (a && parted s) true t.0 in
    go (all blank s) refl (and_left a (parted s) l) (and_right a (parted s) l)
  where
    go : (b : Bool) → all blank s ≡ b → a ≡ true → parted s ≡ true → (parted s && not b) ≡ true
    go true e p q = absurd (m (rw (p, e) at k))
    go false e p q = rw q

-- loose mode does not pass a row with a note
row-noted : {A : Type 0} (a x : Bool) (s : List ℕ) (y z : A) → is_note s ≡ true → cond (a && ended Loose s && x) y z ≡ z
unfolding ended is_note
row-noted a x s y z e = rw (not-true (all blank s) (and_right (parted s) (not (all blank s)) e), and-false a)

module _ (c : List ℕ) where
  -- an integer that the former reading takes and loose mode does not has a note behind its digits
  integer-note : (v : ℕ) → integer_of Former c ≡ Some v → integer_of Loose c ≡ None → is_note (behind_integer c) ≡ true
  unfolding integer_of integer_at integer_is behind_integer
  integer-note v h k =
      let t = unled c in
      let n = run digit t in
      row-note (leb 1 n && leb n 4) (eqb (length c) 4 && eqb (length t) n && lean t n) (drop n t) (Some (value 0 (take n t))) None
      (Some v) (no_whole v) h k (λ e. no_whole (value 0 (take n t)) (sym e))

  -- and with a note loose mode takes none
  pub integer-noted : is_note (behind_integer c) ≡ true → integer_of Loose c ≡ None
  unfolding integer_of integer_at integer_is behind_integer
  integer-noted e =
      let t = unled c in
      let n = run digit t in
      row-noted (leb 1 n && leb n 4) true (drop n t) (Some (value 0 (take n t))) None e

  -- a real has it behind its token
  real-note : (z : ℤ) → real_of Former c ≡ Some z → real_of Loose c ≡ None → is_note (behind_real c) ≡ true
  unfolding real_of real_signed real_at real_is behind_real unsigned
  real-note z h k =
      let sign = sign_of (unled c) in
      let u = drop (signs sign) (unled c) in
      let n = run digit u in
      row-note (is_token sign u n) (is_neat (length c) sign u n) (drop (n + 4) u) (Some (signed sign (thousandths u n))) None (Some z)
      (no-decimal z) h k (λ e. no-decimal (signed sign (thousandths u n)) (sym e))

  -- loose mode takes an integer as the former reading does, or there is a note
  pub integer-former : (P : Type 0) → (integer_of Loose c ≡ integer_of Former c → P) → (is_note (behind_integer c) ≡ true → P) → P
  integer-former P same note = go (integer_of Loose c) refl (integer_of Former c) refl
    where
      go : (l : Option ℕ) → integer_of Loose c ≡ l → (f : Option ℕ) → integer_of Former c ≡ f → P
      go (Some n) p f q = same (p ∙ sym (integer-widens Loose Former refl c n p))
      go None p (Some n) q = note (integer-note n q p)
      go None p None q = same (p ∙ sym q)

  pub real-former : (P : Type 0) → (real_of Loose c ≡ real_of Former c → P) → (is_note (behind_real c) ≡ true → P) → P
  real-former P same note = go (real_of Loose c) refl (real_of Former c) refl
    where
      go : (l : Option ℤ) → real_of Loose c ≡ l → (f : Option ℤ) → real_of Former c ≡ f → P
      go (Some z) p f q = same (p ∙ sym (real-widens Loose Former refl c z p))
      go None p (Some z) q = note (real-note z q p)
      go None p None q = same (p ∙ sym q)

  pub real-noted : is_note (behind_real c) ≡ true → real_of Loose c ≡ None
  unfolding real_of real_signed real_at real_is behind_real unsigned
  real-noted e =
      let sign = sign_of (unled c) in
      let u = drop (signs sign) (unled c) in
      let n = run digit u in
      row-noted (is_token sign u n) true (drop (n + 4) u) (Some (signed sign (thousandths u n))) None e

-- ---- ranges

-- digits spell less than a power of ten
value-lt : (s : List ℕ) (a m : ℕ) → all digit s ≡ true → a < m → value a s < m * 10 ^ length s
unfolding value all
value-lt [] a m e h = omega arith
value-lt (b ∷ s) a m e h =
    let d = digit-to b (and_left (digit b) (all digit s) e) in
    let r : a * 10 + (b - 48) < m * 10 = omega arith in
    rw (pow-suc 10 (length s), mul_comm (10 ^ length s) 10, ← mul_assoc m 10 (10 ^ length s))
    (value-lt s (a * 10 + (b - 48)) (m * 10) (and_right (digit b) (all digit s) e) r)

-- those at the front of a list
front-lt : (t : List ℕ) (n k : ℕ) → n ≡ run digit t → n ≤ k → value 0 (take n t) < 10 ^ k
front-lt t n k q h =
    let l : length (take n t) ≤ k = simp length-take (omega arith) in
    omega (arith, value-lt (take n t) 0 1 (rw q (all-run digit t)) (omega arith), pow-le-pow_right {n = 10} (omega arith) {i = length (take n t)} {j = k} l)

-- an integer is at most 9999
pub integer-most : (mode : Mode) (c : List ℕ) (v : ℕ) → integer_of mode c ≡ Some v → v ≤ 9999
unfolding integer_of integer_at integer_is
integer-most mode c v h =
    let t = unled c in
    let n = run digit t in
    let x = not (is_exact mode) || eqb (length c) 4 && eqb (length t) n && lean t n in
    let w = cond-first (leb 1 n && leb n 4 && ended mode (drop n t) && x) (Some (value 0 (take n t))) None (Some v) (no_whole v) h in
    let k = leb-true n 4 (and_right (leb 1 n) (leb n 4) (and_left (leb 1 n && leb n 4) (ended mode (drop n t)) (and_left (leb 1 n && leb n 4 && ended mode (drop n t)) x w.0))) in
    let e : value 0 (take n t) ≡ v = is-value (value 0 (take n t)) v w.1 in
    omega (arith, front-lt t n 4 refl k)
  where
    is-value : (a b : ℕ) → Some a ≡ Some b → a ≡ b
    is-value a b e = cc

-- a token's value: seven digits go with a sign
module _ (sign : ℕ) (u : List ℕ) (n : ℕ) (q : n ≡ run digit u) (h : is_token sign u n ≡ true) where
  token-lt : (k : ℕ) → n ≤ k → thousandths u n < 10 ^ k * 1000
  unfolding thousandths
  token-lt k l = omega (arith, front-lt u n k q l, front-lt (drop (n + 1) u) 3 3 (sym (token-three sign u n h)) (omega arith))

  minus-seven : sign ≡ 45 → n ≤ 7
  unfolding signs
  minus-seven e = omega (arith, rw e at (token-twelve sign u n h))

in-minus : (m : ℕ) → m < 10000000000 → is_real (neg_ℤ (pos m)) ≡ true
unfolding is_real
in-minus zero h = refl
in-minus (suc m) h = rw (le-leb m 9999999998 (omega arith))

in-plus : (m : ℕ) → m < 100000000000 → is_real (pos m) ≡ true
unfolding is_real
in-plus m h = le-leb m 99999999999 (omega arith)

signed-in : (sign : ℕ) (u : List ℕ) (n : ℕ) → n ≡ run digit u → is_token sign u n ≡ true → is_real (signed sign (thousandths u n)) ≡ true
unfolding signed
signed-in sign u n q h =
    let m = thousandths u n in
    cond-elim (λ (z : ℤ). is_real z ≡ true) (eqb sign 45) (neg_ℤ (pos m)) (pos m)
    (λ e. in-minus m (token-lt sign u n q h 7 (minus-seven sign u n q h (eqb-true sign 45 e))))
    (λ e. in-plus m (token-lt sign u n q h 8 (token-eight sign u n h)))

-- a real is within the range
pub real-in : (mode : Mode) (c : List ℕ) (z : ℤ) → real_of mode c ≡ Some z → is_real z ≡ true
unfolding real_of real_signed real_at real_is
real-in mode c z h =
    let sign = sign_of (unled c) in
    let u = drop (signs sign) (unled c) in
    let n = run digit u in
    let end = ended mode (drop (n + 4) u) in
    let x = not (is_exact mode) || is_neat (length c) sign u n in
    let w = cond-first (is_token sign u n && end && x) (Some (signed sign (thousandths u n))) None (Some z) (no-decimal z) h in
    let e : signed sign (thousandths u n) ≡ z = is-value (signed sign (thousandths u n)) z w.1 in
    rw (← e) (signed-in sign u n refl (and_left (is_token sign u n) end (and_left (is_token sign u n && end) x w.0)))
  where
    is-value : (a b : ℤ) → Some a ≡ Some b → a ≡ b
    is-value a b e = cc
