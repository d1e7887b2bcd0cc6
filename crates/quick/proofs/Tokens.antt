-- Twelve bytes that the quick way takes are a real as exact mode has it. Assumes nothing.
use Rattle.std.proofs.Common.{◌≡◌, ℕ, zero, suc, ◌+◌, ◌-◌, ◌*◌, ◌<◌, ◌≤◌, Bool, true, false, ◌&&◌, eqb, leb, List, [], ◌∷◌, length, get_or, take, drop, sym, refl, ap, ◌∙◌, arith, length-drop, get_or-drop, take_all, drop-drop, eq-eqb, ne_eqb, eqb-true, le-leb, leb-true}
use Rattle.laws.specs.Lists.{run, all}
use Rattle.laws.proofs.Choice.{and_left, and_right}
use Rattle.laws.proofs.ListLaws.{left, left-none, all-run, all-weaken}
use Rattle.std.specs.Prelude.{Some}
use Rattle.record.specs.declared.Mode.TheVariants.{Exact}
use Rattle.record.specs.Record.{plain}
use Rattle.number.specs.Words.{blank, unled}
use Rattle.number.specs.Number.{digit, value, ended, lean, sign_of, signs, signed, thousandths, is_token, is_neat, real_is, real_at, real_signed, real_of, is_real}
use Rattle.number.proofs.IntegerWays.{digit-from, digit-to}
use Rattle.number.proofs.NumberLaws.{ended-nothing, real-in}
use Rattle.token.specs.Lex.{lift}
use Rattle.quick.specs.Neat.{Figures, Figured, Neat, Sound}

on-is : (size sg : ℕ) (u : List ℕ) (n : ℕ) → size ≡ 12 → 1 ≤ n → n ≤ 8 → get_or u n 0 ≡ 46 → run digit (drop (n + 1) u) ≡ 3 → ended Exact (drop (n + 4) u) ≡ true
    → signs sg + n + 4 ≤ 12 → length u ≡ n + 4 → eqb sg 43 ≡ false → (eqb sg 45 && eqb (thousandths u n) 0) ≡ false → lean u n ≡ true
    → real_is Exact size sg u n ≡ Some (signed sg (thousandths u n))
unfolding real_is is_token is_neat
on-is size sg u n a b d e f g h i j k l =
    rw (le-leb 1 n b, le-leb n 8 d, eq-eqb (get_or u n 0) 46 e, eq-eqb (run digit (drop (n + 1) u)) 3 f, le-leb (signs sg + n + 4) 12 h, g, eq-eqb size 12 a, eq-eqb (length u) (n + 4) i, j, k, l)

module _ (c : List ℕ) (size : length c ≡ 12) (p : get_or c 8 0 ≡ 46) where
  module _ (d m : ℕ) (t : Figures c d m) where
    point : get_or (drop d c) (8 - d) 0 ≡ 46
    point = let k = t.some in let z : d + (8 - d) ≡ 8 = omega arith in get_or-drop d c (8 - d) 0 ∙ ap (λ (n : ℕ). get_or c n 0) z ∙ p

    past : drop (8 - d + 1) (drop d c) ≡ drop 9 c
    past = let k = t.some in let z : d + (8 - d + 1) ≡ 9 = omega arith in drop-drop (8 - d + 1) d c ∙ ap (λ (n : ℕ). drop n c) z

    over : drop (8 - d + 4) (drop d c) ≡ []
    over = let k = t.some in let z : d + (8 - d + 4) ≡ 12 = omega arith in drop-drop (8 - d + 4) d c ∙ ap (λ (n : ℕ). drop n c) z ∙ left-none c 12 (omega arith)

    its-end : ended Exact (drop (8 - d + 4) (drop d c)) ≡ true
    its-end = rw over (ended-nothing Exact)

    worth : thousandths (drop d c) (8 - d) ≡ m
    unfolding thousandths
    worth = sym (t.worth ∙ rw past)

    token-on : (sg : ℕ) → signs sg ≤ d → eqb sg 43 ≡ false → (eqb sg 45 && eqb m 0) ≡ false
        → real_is Exact (length c) sg (drop d c) (8 - d) ≡ Some (signed sg m)
    token-on sg e f g =
        let k = t.some in
        on-is (length c) sg (drop d c) (8 - d) size (omega arith) (omega arith) point (rw past t.places) its-end (omega arith)
        (simp length-drop (omega arith)) f (rw worth g) t.thin ∙ rw worth

  -- the first byte of the token is a digit
  first : (d m : ℕ) → Figures c d m → digit (get_or c d 0) ≡ true
  unfolding run
  first d m t = go (digit (get_or c d 0)) refl
    where
      go : (x : Bool) → digit (get_or c d 0) ≡ x → x ≡ true
      go true e = refl
      go false e =
          let k = t.some in
          let z : run digit (drop d c) ≡ 0 = rw (left c d 0 (omega arith), e) in
          absurd (omega (arith, z, t.whole))

  module _ (k : ℕ) (q : k ≡ run blank c) where
    sign_at : get_or (drop k c) 0 0 ≡ get_or c k 0
    sign_at = let z : k + 0 ≡ k = omega arith in get_or-drop k c 0 0 ∙ ap (λ (n : ℕ). get_or c n 0) z

    plus-real : (m : ℕ) → Figures c k m → real_of Exact c ≡ Some (signed 0 m)
    unfolding real_of real_signed real_at unled sign_of signs
    plus-real m t =
        let f = first k m t in
        let a = digit-from (get_or c k 0) f in
        rw (← q, sign_at, ne_eqb (get_or c k 0) 43 (omega arith), ne_eqb (get_or c k 0) 45 (omega arith), t.whole)
        (token-on k m t 0 (omega arith) refl refl)

    next : drop 1 (drop k c) ≡ drop (k + 1) c
    next = drop-drop 1 k c

    minus-real : (m : ℕ) → get_or c k 0 ≡ 45 → Figures c (k + 1) m → 0 < m → real_of Exact c ≡ Some (signed 45 m)
    unfolding real_of real_signed real_at unled sign_of signs
    minus-real m e t h =
        rw (← q, sign_at, e, next, t.whole)
        (token-on (k + 1) m t 45 (omega arith) refl (ne_eqb m 0 (omega arith)))

-- every byte passes where those of two parts do
pub all_join : (p : ℕ → Bool) (n : ℕ) (s : List ℕ) → all p (take n s) ≡ true → all p (drop n s) ≡ true → all p s ≡ true
unfolding all
all_join p zero s e f = f
all_join p (suc n) [] e f = refl
all_join p (suc n) (b ∷ s) e f =
    rw (and_left (p b) (all p (take n s)) e) (all_join p n s (and_right (p b) (all p (take n s)) e) f)

pub digit-plain : (b : ℕ) → digit b ≡ true → plain b ≡ true
digit-plain b e = let l = digit-from b e in let u = digit-to b e in rw (le-leb 32 b (omega arith), le-leb b 126 (omega arith))

pub blank-plain : (b : ℕ) → blank b ≡ true → plain b ≡ true
blank-plain b e = rw (eqb-true b 32 e)

module _ (c : List ℕ) (size : length c ≡ 12) (p : get_or c 8 0 ≡ 46) where
  digits-plain : (s : List ℕ) (n : ℕ) → run digit s ≡ n → all plain (take n s) ≡ true
  digits-plain s n e = all-weaken digit plain digit-plain (take n s) (rw (← e) (all-run digit s))

  nine-plain : run digit (drop 9 c) ≡ 3 → all plain (drop 9 c) ≡ true
  nine-plain e =
      let z : length (drop 9 c) ≤ 3 = simp length-drop (omega arith) in
      rw (take_all 3 (drop 9 c) z) at (digits-plain (drop 9 c) 3 e)

  eight-plain : run digit (drop 9 c) ≡ 3 → all plain (drop 8 c) ≡ true
  unfolding all
  eight-plain e = rw (left c 8 0 (omega arith), p) (nine-plain e)

  token-plain : (d m : ℕ) → Figures c d m → all plain (drop d c) ≡ true
  token-plain d m t =
      let k = t.some in
      let z : d + (8 - d) ≡ 8 = omega arith in
      let e : drop (8 - d) (drop d c) ≡ drop 8 c = drop-drop (8 - d) d c ∙ ap (λ (n : ℕ). drop n c) z in
      all_join plain (8 - d) (drop d c) (digits-plain (drop d c) (8 - d) t.whole) (rw e (eight-plain t.places))

  module _ (k : ℕ) (q : k ≡ run blank c) where
    front-plain : all plain (take k c) ≡ true
    front-plain = all-weaken blank plain blank-plain (take k c) (rw q (all-run blank c))

    plus-plain : (m : ℕ) → Figures c k m → all plain c ≡ true
    plus-plain m t = all_join plain k c front-plain (token-plain k m t)

    sign-plain : k ≤ 8 → get_or c k 0 ≡ 45 → all plain (drop (k + 1) c) ≡ true → all plain (drop k c) ≡ true
    unfolding all
    sign-plain l e h = rw (left c k 0 (omega arith), e) h

    minus-plain : (m : ℕ) → k ≤ 8 → get_or c k 0 ≡ 45 → Figures c (k + 1) m → all plain c ≡ true
    minus-plain m l e t = all_join plain k c front-plain (sign-plain l e (token-plain (k + 1) m t))

pub lift-plus : (m : ℕ) → lift (signed 0 m) ≡ m + 10000000000
unfolding lift signed
lift-plus m = refl

lift-minus : (m : ℕ) → 0 < m → lift (signed 45 m) ≡ 10000000000 - m
unfolding lift signed
lift-minus zero h = absurd (omega arith)
lift-minus (suc m) h = omega arith

pub minus-most : (m : ℕ) → is_real (signed 45 m) ≡ true → m ≤ 9999999999
unfolding signed is_real
minus-most zero r = omega arith
minus-most (suc m) r = omega (arith, leb-true m 9999999998 (and_left (leb m 9999999998) true r))

pub plus-most : (m : ℕ) → is_real (signed 0 m) ≡ true → m ≤ 99999999999
unfolding signed is_real
plus-most m r = leb-true m 99999999999 r

-- the ways of `with_sign`
module _ (c : List ℕ) (d n k : ℕ) (size : length c ≡ 12) (p : get_or c 8 0 ≡ 46) (o : 0 < n) (t : Figures c d (n - 1)) (q : k ≡ run blank c) (l : k ≤ 8) where
  module _ (e : k ≡ d) where
    here : Figures c k (n - 1)
    here = rw e t

    pub plus-short : n ≤ 100000000000
    plus-short = omega (arith, plus-most (n - 1) (real-in Exact c (signed 0 (n - 1)) (plus-real c size p k q (n - 1) here)))

    pub neat-plus : Neat c (n + 9999999999)
    neat-plus =
        record {
          size = size;
          z = signed 0 (n - 1);
          real = plus-real c size p k q (n - 1) here;
          lifted = omega (arith, lift-plus (n - 1));
          bytes = plus-plain c size p k q (n - 1) here;
        }

  module _ (e : k + 1 ≡ d) (m : get_or c k 0 ≡ 45) (h : 2 ≤ n) where
    there : Figures c (k + 1) (n - 1)
    there = rw e t

    minus_is : real_of Exact c ≡ Some (signed 45 (n - 1))
    minus_is = minus-real c size p k q (n - 1) m there (omega arith)

    pub minus-short : n ≤ 10000000001
    minus-short = omega (arith, minus-most (n - 1) (real-in Exact c (signed 45 (n - 1)) minus_is))

    pub neat-minus : Neat c (10000000001 - n)
    neat-minus =
        record {
          size = size;
          z = signed 45 (n - 1);
          real = minus_is;
          lifted = omega (arith, lift-minus (n - 1) (omega arith));
          bytes = minus-plain c size p k q (n - 1) l m there;
        }

-- ---- without the value

-- a digit that is no zero makes a number that is none
value-some : (a : ℕ) (s : List ℕ) → 0 < a → 0 < value a s
unfolding value
value-some a [] h = h
value-some a (b ∷ s) h = value-some (a * 10 + (b - 48)) s (omega arith)

worth-some : (c : List ℕ) (d m : ℕ) → length c ≡ 12 → get_or c 8 0 ≡ 46 → Figures c d m → (get_or c d 0 ≡ 48 → ⊥) → 0 < m
unfolding value
worth-some c d m size p t n =
    let k = t.some in
    let a = digit-from (get_or c d 0) (first c size p d m t) in
    let e : 8 - d ≡ suc (7 - d) = omega arith in
    let z : value 0 (take (8 - d) (drop d c)) ≡ value (0 * 10 + (get_or c d 0 - 48)) (take (7 - d) (drop (d + 1) c)) = rw (left c d 0 (omega arith), e) in
    omega (arith, t.worth, z, value-some (0 * 10 + (get_or c d 0 - 48)) (take (7 - d) (drop (d + 1) c)) (omega (arith, n)))

-- the ways of `is_led`
module _ (c : List ℕ) (d k : ℕ) (size : length c ≡ 12) (p : get_or c 8 0 ≡ 46) (f : Figured c d) (q : k ≡ run blank c) (l : k ≤ 8) where
  less : f.m + 1 - 1 ≡ f.m
  less = omega arith

  pub sound-plus : k ≡ d → Sound c
  sound-plus e = record { v = f.m + 1 + 9999999999; neat = neat-plus c d (f.m + 1) k size p (omega arith) (rw less f.figures) q l e }

  pub sound-minus : k + 1 ≡ d → get_or c k 0 ≡ 45 → (get_or c d 0 ≡ 48 → ⊥) → Sound c
  sound-minus e s n =
      record { v = 10000000001 - (f.m + 1); neat = neat-minus c d (f.m + 1) k size p (omega arith) (rw less f.figures) q l e s (omega (arith, worth-some c d f.m size p f.figures n)) }

pub ruleset is_led_ways = (sound-plus, sound-minus)

pub ruleset with_sign_ways = (plus-short, neat-plus, minus-short, neat-minus)
