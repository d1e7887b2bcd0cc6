-- A real with no blank in front, as CML has it (document 02, T-11): its size, and its three parts stored from its point backwards. Assumes nothing.
use Prim.Native.Nat.{ℕ, suc, ◌+◌, ◌-◌, ◌*◌, ◌/◌, ◌%◌, ◌^◌, ◌≤◌, ◌<◌}
use mathlib.Core.Path.{◌≡◌, refl, sym, ◌∙◌, ap}
use mathlib.Core.List.{List, [], ◌∷◌}
use mathlib.Core.Bool.{Bool, true, false, cond}
use native.Mathlib.Nat.{pow-suc}
use native.Mathlib.Omega.{arith}
use lib.ListN.{length, set, length-append}
use lib.Seq.{sets-eq}
use lib.Dec.{leb}
use lib.IntN.{ℤ, pos, nat_abs}
use lib.Signed.{lt_z}
use mir.Syntax.{w64}
use mir.Val.{bool_byte, SFits, to_z, of_z}
use borrow.Author.Tests.{le-leb, leb-true, leb-false}
use Rattle.laws.specs.Lists.{over, pasted}
use Rattle.laws.proofs.TableLaws.{pasted-none, pasted-front}
use Rattle.number.specs.Number.{is_real}
use Rattle.spelling.specs.Stored.{has_room, Stored}
use Rattle.spelling.specs.Spelling.{digits, places, minus, decimal, bare_real, real_text}
use Rattle.spelling.proofs.DigitLaws.{digits-some, digits-most, digits-least, digits-wider, digits-below, digits-alike}
use Rattle.spelling.proofs.SpellingLaws.{decimal-length, body-length}
use Rattle.spelling.proofs.Ways.{back, abs-most, hundredth, stored-tight, blanks, aligned-over}

-- ---- how many digits

-- room for one more adds one where the number reaches that power of ten
one_further : (w n : ℕ) → length (digits (suc (suc w)) n) ≡ length (digits (suc w) n) + cond (leb (10 ^ suc w) n) 1 0
one_further w n = go (leb (10 ^ suc w) n) refl
  where
    go : (t : Bool) → leb (10 ^ suc w) n ≡ t → length (digits (suc (suc w)) n) ≡ length (digits (suc w) n) + cond t 1 0
    go true e =
        let l = leb-true (10 ^ suc w) n e in
        omega (
          arith,
          digits-least (suc (suc w)) (suc w) n (omega arith) l,
          digits-most (suc (suc w)) n,
          digits-least (suc w) w n (omega arith) (omega (arith, l, pow-suc 10 w)),
          digits-most (suc w) n,
        )
    go false e = omega (arith, ap length (digits-wider (suc w) (suc (suc w)) n (omega arith) (omega arith) (omega (arith, leb-false (10 ^ suc w) n e))))

pub digits_sum : (n : ℕ)
    → length (digits 8 n)
    ≡ 1 + cond (leb 10 n) 1 0 + cond (leb 100 n) 1 0 + cond (leb 1000 n) 1 0 + cond (leb 10000 n) 1 0 + cond (leb 100000 n) 1 0 + cond (leb 1000000 n) 1 0
    + cond (leb 10000000 n) 1 0
digits_sum n =
    let i : length (digits 2 n) ≡ length (digits 1 n) + cond (leb 10 n) 1 0 = one_further 0 n in
    let j : length (digits 3 n) ≡ length (digits 2 n) + cond (leb 100 n) 1 0 = one_further 1 n in
    let k : length (digits 4 n) ≡ length (digits 3 n) + cond (leb 1000 n) 1 0 = one_further 2 n in
    let l : length (digits 5 n) ≡ length (digits 4 n) + cond (leb 10000 n) 1 0 = one_further 3 n in
    let m : length (digits 6 n) ≡ length (digits 5 n) + cond (leb 100000 n) 1 0 = one_further 4 n in
    let o : length (digits 7 n) ≡ length (digits 6 n) + cond (leb 1000000 n) 1 0 = one_further 5 n in
    let w : length (digits 8 n) ≡ length (digits 7 n) + cond (leb 10000000 n) 1 0 = one_further 6 n in
    omega (arith, i, j, k, l, m, o, w, digits-some 1 n (omega arith), digits-most 1 n)

pub bool_is : (b : Bool) → bool_byte b ≡ cond b 1 0
bool_is true = refl
bool_is false = refl

pub ruleset count_ways = (digits_sum, bool_is)

-- ---- its size

pub bare-length : (z : ℤ) → length (bare_real z) ≡ length (minus z) + length (digits 8 (nat_abs z / 1000)) + 4
unfolding bare_real
bare-length z = omega (arith, length-append (minus z) (decimal (nat_abs z)), decimal-length (nat_abs z))

pub minus-most : (z : ℤ) → length (minus z) ≤ 1
unfolding minus
minus-most z = go (lt_z z (pos 0))
  where
    go : (t : Bool) → length {A = ℕ} (cond t (45 ∷ []) []) ≤ 1
    go true = omega arith
    go false = omega arith

pub bare-most : (z : ℤ) → is_real z ≡ true → length (bare_real z) ≤ 12
unfolding bare_real
bare-most z h = body-length z h

module _ (z : ℤ) (f : SFits w64 z) where
  module _ (r : Bool) (e : r ≡ is_real (to_z w64 (of_z w64 z))) where
    pub is-in : r ≡ true → is_real z ≡ true
    is-in t = ap is_real (sym (back z f)) ∙ sym e ∙ t

    pub is-out : r ≡ false → is_real z ≡ false
    is-out t = ap is_real (sym (back z f)) ∙ sym e ∙ t

pub ruleset size_ways = (bare-length, digits-most, minus-most)

-- ---- point and places

pub places-put : (l : List ℕ) (at m a b c : ℕ) → at + 4 ≤ length l → m < 1000
    → a ≡ 48 + m * 41 / 4096 % 10 → b ≡ 48 + (m - 100 * (m * 41 / 4096)) / 10 → c ≡ 48 + (m - 100 * (m * 41 / 4096)) % 10
    → set (set (set (set l at 46) (at + 1) a) (at + 2) b) (at + 3) c ≡ pasted l at (46 ∷ places 3 m)
unfolding places
places-put l at m a b c h k p q r =
    let f = hundredth m k in
    let g : m / 10 / 10 ≡ m / 100 = omega arith in
    let x : a ≡ 48 + m / 10 / 10 % 10 = p ∙ rw (f, g) in
    let y : b ≡ 48 + m / 10 % 10 = q ∙ rw f (let e : 48 + (m - 100 * (m / 100)) / 10 ≡ 48 + m / 10 % 10 = omega arith in e) in
    let z : c ≡ 48 + m % 10 = r ∙ rw f (let e : 48 + (m - 100 * (m / 100)) % 10 ≡ 48 + m % 10 = omega arith in e) in
    let i : at + 1 ≡ suc at = omega arith in
    let j : at + 2 ≡ suc (suc at) = omega arith in
    let o : at + 3 ≡ suc (suc (suc at)) = omega arith in
    rw (i, j, o) (sets-eq (46 ∷ a ∷ b ∷ c ∷ []) l at (omega arith) ∙ rw (x, y, z))

pub ruleset places_ways = (places-put)

-- ---- the three parts

pub ends : {size end : ℕ} → size ≤ end → end - size + size ≡ end
ends h = omega arith

module _ (z y : ℤ) (m at point : ℕ) (i : y ≡ z) (h : is_real z ≡ true) (n : m ≡ nat_abs y) (w : at + length (bare_real z) ≡ point + 4) where
  whole_is : m ≡ nat_abs z
  whole_is = n ∙ ap nat_abs i

  pub bare-some : 1 ≤ point
  bare-some = omega (arith, w, bare-length z, digits-some 8 (nat_abs z / 1000) (omega arith))

  abbrev whole : ℕ
  whole = nat_abs z / 1000

  whole_below : whole < 100000000
  whole_below = omega (arith, abs-most z h)

  whole_room : length (digits 8 whole) ≤ point
  whole_room = omega (arith, w, bare-length z)

  pub bare-below : m / 1000 < 10 ^ point
  bare-below = rw whole_is (digits-below 8 whole point whole_below whole_room)

  bare-digits : digits point (m / 1000) ≡ digits 8 whole
  bare-digits = rw whole_is (digits-alike 8 whole point whole_below whole_room (omega arith) bare-some)

  module _ (r : ℕ) (q : r + length (digits point (m / 1000)) ≡ point) where
    bare-sign : r ≡ at + length (minus z)
    bare-sign = omega (arith, q, ap length bare-digits, w, bare-length z)

    pub bare-fits : length (minus y) ≤ r
    bare-fits = omega (arith, bare-sign, ap (λ (k : ℤ). length (minus k)) i)

    pub bare-made : (l a b d : List ℕ) → point + 4 ≤ length l → a ≡ pasted l point (46 ∷ places 3 (m % 1000)) → b ≡ pasted a r (digits point (m / 1000))
        → d ≡ pasted b (r - length (minus y)) (minus y) → d ≡ pasted l at (bare_real z)
    unfolding bare_real decimal
    bare-made l a b d room p o e =
        let u : r + length (digits 8 (nat_abs z / 1000)) ≡ point = rw bare-digits at q in
        let x : b ≡ pasted l r (decimal (nat_abs z))
        = o ∙ rw (bare-digits, p, whole_is) (pasted-front l r point (digits 8 (nat_abs z / 1000)) (46 ∷ places 3 (nat_abs z % 1000)) u (omega arith)) in
        let j : r - length (minus z) ≡ at = omega (arith, bare-sign) in
        e ∙ rw (i, x, j) (pasted-front l at r (minus z) (decimal (nat_abs z)) (sym bare-sign) (omega (arith, u, room)))

-- ---- the answers

pub stored-none : (l : List ℕ) (at : ℕ) → Stored l at [] l at
unfolding has_room
stored-none l at = record { is = whole (leb (at + 0) (length l)); next = there (leb (at + 0) (length l)) }
  where
    whole : (t : Bool) → l ≡ cond t (pasted l at []) l
    whole true = pasted-none l at
    whole false = refl

    there : (t : Bool) → at ≡ cond t (at + 0) at
    there true = omega arith
    there false = refl

module _ (l : List ℕ) (at : ℕ) (z : ℤ) (f : SFits w64 z) (r : Bool) (e : r ≡ is_real (to_z w64 (of_z w64 z))) where
  pub bare-none : r ≡ false → Stored l at (cond (is_real z) (bare_real z) []) l at
  bare-none t = rw (is-out z f r e t) (stored-none l at)

  module _ (t : r ≡ true) where
    pub bare-past : length l < at → Stored l at (cond (is_real z) (bare_real z) []) l at
    bare-past h = rw (is-in z f r e t) (stored-tight l at (bare_real z) (omega arith))

    module _ (size : ℕ) (q : size ≡ cond (is_real (to_z w64 (of_z w64 z))) (length (bare_real (to_z w64 (of_z w64 z)))) 0) where
      pub bare-is : size ≡ length (bare_real z)
      bare-is = q ∙ rw (back z f, is-in z f r e t)

      pub bare-tight : length l - at < size → Stored l at (cond (is_real z) (bare_real z) []) l at
      bare-tight h = rw (is-in z f r e t) (stored-tight l at (bare_real z) (omega (arith, bare-is)))

      pub bare-done : at ≤ length l → size ≤ length l - at → (d : List ℕ) → d ≡ pasted l (at + size - 4 + 4 - length (bare_real (to_z w64 (of_z w64 z)))) (bare_real (to_z w64 (of_z w64 z)))
          → Stored l at (cond (is_real z) (bare_real z) []) d (at + size)
      unfolding has_room
      bare-done h k d w =
          let u : leb (at + length (bare_real z)) (length l) ≡ true = le-leb (at + length (bare_real z)) (length l) (omega (arith, bare-is)) in
          let o : at + size - 4 + 4 - length (bare_real z) ≡ at = omega (arith, bare-is, bare-length z) in
          rw (is-in z f r e t) (record { is = rw u (w ∙ rw (back z f, o)); next = rw (u, bare-is) })

      -- what the function that places it asks
      pub bare-asks : at ≤ length l → size ≤ length l - at
          → (is_real (to_z w64 (of_z w64 z)) ≡ true) × (length (bare_real (to_z w64 (of_z w64 z))) ≤ at + size - 4 + 4) × (at + size - 4 + 4 ≤ length l)
      bare-asks h k = rw (back z f) (is-in z f r e t, omega (arith, bare-is, bare-length z), omega (arith, bare-is, bare-length z))

      pub bare-four : 4 ≤ size
      bare-four = omega (arith, bare-is, bare-length z)

-- over blanks it is aligned
pub real-made : (z : ℤ) → SFits w64 z → is_real z ≡ true → (l d : List ℕ)
    → d ≡ pasted (over (blanks 8) l) (8 + 4 - length (bare_real (to_z w64 (of_z w64 z)))) (bare_real (to_z w64 (of_z w64 z))) → d ≡ over (real_text z) l
unfolding real_text
real-made z f h l d e =
    let n : length (bare_real z) ≤ 12 = bare-most z h in
    e ∙ rw (back z f) (aligned-over 12 8 (8 + 4 - length (bare_real z)) (bare_real z) l (omega arith) (omega (arith, bare-length z)) (omega arith))

pub real_asks : (z : ℤ) → SFits w64 z → is_real z ≡ true → length (bare_real (to_z w64 (of_z w64 z))) ≤ 12
real_asks z f h = rw (back z f) (bare-most z h)
