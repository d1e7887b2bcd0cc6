-- The ways through the functions that read twelve bytes. Assumes nothing.
use Rattle.std.proofs.Common.{nat_eq, ◌≡◌, ℕ, suc, ◌+◌, ◌-◌, ◌*◌, ◌^◌, ◌<◌, ◌≤◌, Bool, true, false, not, eqb, List, [], ◌∷◌, length, get_or, take, drop, sym, refl, ap, ◌∙◌, mul-le-mul_right, mul_assoc, mul_comm, add-mul, pow-suc, arith, length-drop, length-take, get_or-drop, drop-drop, eq-eqb, ne_eqb, eqb-true}
use borrow.Author.Tests.{not-false}
use Rattle.laws.specs.Lists.{run, all}
use Rattle.laws.proofs.Choice.{false≢true}
use Rattle.laws.proofs.ListLaws.{left, left-none, run_on, run-stop, run-from}
use Rattle.number.specs.Words.{blank}
use Rattle.number.specs.Number.{digit, value, lean}
use Rattle.number.proofs.WordWays.{blank-is, blank-not}
use Rattle.number.proofs.IntegerWays.{eight, digit-is}
use Rattle.spelling.proofs.DigitLaws.{value-below}
use Rattle.quick.specs.Neat.{to_point, Front, Figures, Figured}

-- blanks
module _ (c : List ℕ) (i : ℕ) (h : 8 < length c) (p : get_or c 8 0 ≡ 46) (k : i ≤ 8) (q : run blank c ≡ i + run blank (drop i c)) where
  pub blanks-stop : (get_or c i 0 ≡ 32 → ⊥) → i ≡ run blank c
  blanks-stop e = omega (arith, run-stop blank c i (omega arith) (blank-not (get_or c i 0) e))

  pub blanks-step : get_or c i 0 ≡ 32 → run blank c ≡ i + 1 + run blank (drop (i + 1) c)
  blanks-step e = omega (arith, run_on blank c i (omega arith) (blank-is (get_or c i 0) e))

  pub blanks-short : get_or c i 0 ≡ 32 → i + 1 ≤ 8
  blanks-short e = go (eqb i 8) refl
    where
      go : (b : Bool) → eqb i 8 ≡ b → i + 1 ≤ 8
      go true f = let z = eqb-true i 8 f in absurd (let w : get_or c 8 0 ≡ 32 = rw (← z) e in omega arith)
      go false f = let z : i ≡ 8 → ⊥ = λ g. (let x : eqb i 8 ≡ true = eq-eqb i 8 g in let w : ◌≡◌ {A = ℕ} 0 1 = cc in omega arith) in omega (arith, z)

-- what `figure` tells
abbrev pub Figure : ℕ → ℕ → Type 0
Figure b r = r ≤ 9 → (48 ≤ b) × (b ≤ 57) × (r ≡ b - 48)

-- digits from the right
span-on : (c : List ℕ) (i : ℕ) → 8 ≤ length c → 0 < i → i ≤ 8 → to_point c (i - 1) ≡ get_or c (i - 1) 0 ∷ to_point c i
span-on c i h o k =
    let e : 8 - (i - 1) ≡ suc (8 - i) = omega arith in
    let f : i - 1 + 1 ≡ i = omega arith in
    rw (left c (i - 1) 0 (omega arith), e, f)

moved : (a x y P r : ℕ) → y ≡ x → (a * 10 + x) * P + r ≡ a * (P * 10) + (y * P + r)
moved a x y P r e = rw e (omega (arith, add-mul (a * 10) x P, mul_assoc a 10 P, ap (λ (z : ℕ). a * z) (mul_comm 10 P)))

value-front : (a : ℕ) (s : List ℕ) → value a s ≡ a * 10 ^ length s + value 0 s
unfolding value
value-front a [] = omega arith
value-front a (b ∷ s) =
    let z : 0 * 10 + (b - 48) ≡ b - 48 = omega arith in
    rw (pow-suc 10 (length s))
    (value-front (a * 10 + (b - 48)) s
    ∙ moved a (b - 48) (0 * 10 + (b - 48)) (10 ^ length s) (value 0 s) z
    ∙ ap (λ (y : ℕ). a * (10 ^ length s * 10) + y) (sym (value-front (0 * 10 + (b - 48)) s)))

module _ (c : List ℕ) (i v p : ℕ) (h : 8 ≤ length c) (k : i ≤ 8) (pw : p ≡ 10 ^ (8 - i)) (al : all digit (to_point c i) ≡ true) (nu : v ≡ value 0 (to_point c i)) where
  span-length : length (to_point c i) ≡ 8 - i
  span-length = simp (length-take, length-drop) (omega arith)

  pub front_below : v < p
  front_below = omega (arith, value-below (to_point c i) 0 1 al (omega arith), ap (λ (n : ℕ). 10 ^ n) span-length)

  pub front-most : p ≤ 100000000
  front-most = omega (arith, eight (8 - i) (omega arith))

  pub front-is : Front c i v
  front-is = record { within = k; digits = al; number = nu; small = omega (arith, front_below, front-most) }

  module _ (o : 0 < i) (w : ℕ) (fig : Figure (get_or c (i - 1) 0) w) (nine : w ≤ 9) where
    a : 48 ≤ get_or c (i - 1) 0
    a = (fig nine).0

    b : get_or c (i - 1) 0 ≤ 57
    b = (fig nine).1

    e : w ≡ get_or c (i - 1) 0 - 48
    e = (fig nine).2

    pub front-mul : w * p ≤ 9 * p
    front-mul = mul-le-mul_right p (omega arith)

    next-all : all digit (to_point c (i - 1)) ≡ true
    unfolding all
    next-all = rw (span-on c i h o k, digit-is (get_or c (i - 1) 0) a b) al

    next-number : v + w * p ≡ value 0 (to_point c (i - 1))
    unfolding value
    next-number =
        let x = get_or c (i - 1) 0 - 48 in
        let y : (0 * 10 + x) * 10 ^ length (to_point c i) ≡ w * p = rw (e, pw, span-length) (ap (λ (u : ℕ). u * 10 ^ (8 - i)) (omega arith)) in
        rw (span-on c i h o k) (sym (value-front (0 * 10 + x) (to_point c i) ∙ omega (arith, y)))

    next_power : p * 10 ≡ 10 ^ (8 - (i - 1))
    next_power = let f : 8 - (i - 1) ≡ suc (8 - i) = omega arith in rw (f, pow-suc 10 (8 - i), pw)

    pub front-on : (p * 10 ≡ 10 ^ (8 - (i - 1))) × (all digit (to_point c (i - 1)) ≡ true) × (v + w * p ≡ value 0 (to_point c (i - 1)))
    front-on = (next_power, next-all, next-number)

-- no needless zero
pub head_is : (c : List ℕ) (d : ℕ) → get_or (drop d c) 0 0 ≡ get_or c d 0
head_is c d = let z : d + 0 ≡ d = omega arith in get_or-drop d c 0 0 ∙ ap (λ (n : ℕ). get_or c n 0) z

module _ (c : List ℕ) (d : ℕ) where
  pub lean-last : d ≡ 7 → true ≡ lean (drop d c) (8 - d)
  unfolding lean
  lean-last e = rw (eq-eqb (8 - d) 1 (omega arith))

  pub lean-yes : d ≤ 7 → (d ≡ 7 → ⊥) → (get_or c d 0 ≡ 48 → ⊥) → true ≡ lean (drop d c) (8 - d)
  unfolding lean
  lean-yes k e f = let o : 8 - d ≡ 1 → ⊥ = λ g. e (omega arith) in rw (ne_eqb (8 - d) 1 o, head_is c d, ne_eqb (get_or c d 0) 48 f)

-- the three places
pub nine : (c : List ℕ) → length c ≡ 12 → drop 9 c ≡ get_or c 9 0 ∷ get_or c 10 0 ∷ get_or c 11 0 ∷ []
nine c h = rw (left c 9 0 (omega arith), left c 10 0 (omega arith), left c 11 0 (omega arith), left-none c 12 (omega arith))

module _ (c : List ℕ) (v : ℕ) (h : length c ≡ 12)
    (x y z : ℕ) (p : Figure (get_or c 9 0) x) (p' : x ≤ 9) (q : Figure (get_or c 10 0) y) (q' : y ≤ 9) (r : Figure (get_or c 11 0) z) (r' : z ≤ 9) where
  three-run : run digit (drop 9 c) ≡ 3
  unfolding run
  three-run = rw (nine c h, digit-is (get_or c 9 0) (p p').0 (p p').1, digit-is (get_or c 10 0) (q q').0 (q q').1, digit-is (get_or c 11 0) (r r').0 (r r').1)

  three-value : value 0 (take 3 (drop 9 c)) ≡ ((0 * 10 + (get_or c 9 0 - 48)) * 10 + (get_or c 10 0 - 48)) * 10 + (get_or c 11 0 - 48)
  unfolding value
  three-value = rw (nine c h)

  pub three-are : 0 < v * 1000 + (x * 100 + y * 10 + z) + 1
      → (run digit (drop 9 c) ≡ 3) × (v * 1000 + (x * 100 + y * 10 + z) + 1 ≡ v * 1000 + value 0 (take 3 (drop 9 c)) + 1)
  three-are o = (three-run, omega (arith, three-value, p p', q q', r r'))

-- the point ends them
point-stops : (c : List ℕ) (d : ℕ) → length c ≡ 12 → get_or c 8 0 ≡ 46 → d ≤ 7 → run digit (drop (8 - d) (drop d c)) ≡ 0
unfolding run
point-stops c d h p k =
    let z : d + (8 - d) ≡ 8 = omega arith in
    rw (drop-drop (8 - d) d c, z, left c 8 0 (omega arith), p)

-- the token
module _ (c : List ℕ) (d v n : ℕ) (r : Bool) (h : length c ≡ 12) (p : get_or c 8 0 ≡ 46) (f : Front c d v) (k : d ≤ 7) (l : r ≡ lean (drop d c) (8 - d)) (t : r ≡ true)
    (w : 0 < n → (run digit (drop 9 c) ≡ 3) × (n ≡ v * 1000 + value 0 (take 3 (drop 9 c)) + 1)) where
  pub token-is : 0 < n → Figures c d (n - 1)
  token-is o =
      let x = w o in
      record {
        some = k;
        whole = run-from digit (drop d c) (8 - d) (simp length-drop (omega arith)) f.digits ∙ rw (point-stops c d h p k) (omega arith);
        places = x.0;
        thin = sym l ∙ t;
        worth = let y : n - 1 ≡ v * 1000 + value 0 (take 3 (drop 9 c)) = omega (arith, x.1) in y ∙ rw f.number;
      }

pub ruleset blanks_ways = (blanks-stop, blanks-step, blanks-short)

pub unlike : (a b : ℕ) → not (nat_eq a b) ≡ true → a ≡ b → ⊥
unlike a b h e = false≢true (rw (eq-eqb a b e) at h)

-- ---- without the value

module _ (c : List ℕ) (i : ℕ) (h : 8 ≤ length c) (k : i ≤ 8) (al : all digit (to_point c i) ≡ true) where
  pub start-on : (w : ℕ) → 0 < i → Figure (get_or c (i - 1) 0) w → w ≤ 9 → all digit (to_point c (i - 1)) ≡ true
  unfolding all
  start-on w o f n = rw (span-on c i h o k, digit-is (get_or c (i - 1) 0) (f n).0 (f n).1) al

pub three-there : (c : List ℕ) (x y z : ℕ) → length c ≡ 12 → Figure (get_or c 9 0) x → x ≤ 9 → Figure (get_or c 10 0) y → y ≤ 9 → Figure (get_or c 11 0) z → z ≤ 9
    → true ≡ true → run digit (drop 9 c) ≡ 3
three-there c x y z h p p' q q' r r' _ = three-run c 0 h x y z p p' q q' r r'

-- digits, a point, and three more
pub figured-is : (c : List ℕ) (d : ℕ) (a b : Bool) → length c ≡ 12 → get_or c 8 0 ≡ 46 → (d ≤ 8) × (all digit (to_point c d) ≡ true) → d ≤ 7 → a ≡ lean (drop d c) (8 - d) → not a ≡ false
    → (b ≡ true → run digit (drop 9 c) ≡ 3) → not b ≡ false → Figured c d
figured-is c d a b h p f k l t w u =
    record {
      m = value 0 (take (8 - d) (drop d c)) * 1000 + value 0 (take 3 (drop 9 c));
      figures = record {
        some = k;
        whole = run-from digit (drop d c) (8 - d) (simp length-drop (omega arith)) f.1 ∙ rw (point-stops c d h p k) (omega arith);
        places = w (not-false b u);
        thin = sym l ∙ not-false a t;
        worth = refl;
      };
    }
