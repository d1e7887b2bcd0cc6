-- A figure is read back from its field (document 02, T-10). Assumes nothing.
use Prim.Native.Nat.{ℕ, zero, suc, ◌+◌, ◌-◌, ◌*◌, ◌/◌, ◌%◌, ◌^◌, ◌≤◌, ◌<◌}
use mathlib.Core.Path.{◌≡◌, refl, ap, ◌∙◌}
use mathlib.Core.List.{List, [], ◌∷◌, ◌++◌}
use mathlib.Core.Bool.{Bool, true, false}
use native.Mathlib.Nat.{pow-suc, pow-le-pow_right}
use native.Mathlib.Omega.{arith}
use lib.ListN.{length, replicate, length-append, length-replicate}
use lib.Dec.{leb}
use lib.IntN.{ℤ, pos, negsuc, nat_abs}
use borrow.Author.Tests.{leb-true, leb-false, le-ltb, ne_eqb, le-leb}
use Rattle.laws.specs.Lists.{all, holds}
use Rattle.laws.proofs.Choice.{and_left, and_right}
use Rattle.number.specs.Number.{digit, value}
use Rattle.spelling.specs.Spelling.{digits, count_text, aligned}
use Rattle.spelling.specs.Figures.{whole_text, is_narrow, figure_text}
use Rattle.spelling.proofs.DigitLaws.{digits-all, digit_low}
use Rattle.spelling.proofs.FigureLaws.{whole-plus, whole-minus, count-value}
use Rattle.supline.specs.Right.{figure_said}

-- ---- what finds room in ten characters has at most twenty digits

digits-full : (w n : ℕ) → 10 ^ w ≤ n → length (digits w n) ≡ w
unfolding digits
digits-full zero n h = refl
digits-full (suc w) n h =
    let p : 10 ^ suc w ≡ 10 ^ w * 10 = omega (arith, pow-suc 10 w) in
    let q : 10 ^ 0 ≤ 10 ^ w = pow-le-pow_right {n = 10} (omega arith) {i = 0} {j = w} (omega arith) in
    let big : 10 ≤ n = omega (arith, p, q) in
    rw (le-ltb n 10 big) (omega (arith, length-append (digits w (n / 10)) ((48 + n % 10) ∷ []), digits-full w (n / 10) (omega (arith, p))))

few : (n : ℕ) → length (count_text n) ≤ 10 → n < 10 ^ 20
unfolding count_text
few n h = go (leb (10 ^ 20) n) refl h
  where
    go : (b : Bool) → leb (10 ^ 20) n ≡ b → length (digits 20 n) ≤ 10 → n < 10 ^ 20
    go true e k = absurd (omega (arith, digits-full 20 n (leb-true (10 ^ 20) n e)))
    go false e k = leb-false (10 ^ 20) n e

pub narrow-small : (z : ℤ) → is_narrow z ≡ true → nat_abs z < 10 ^ 20
unfolding is_narrow
narrow-small (pos a) e = few a (omega (arith, leb-true (length (whole_text (pos a))) 10 e, ap length (whole-plus a)))
narrow-small (negsuc a) e = few (suc a) (omega (arith, leb-true (length (whole_text (negsuc a))) 10 e, ap length (whole-minus a)))

-- ---- blanks add nothing

value-blanks : (k : ℕ) (s : List ℕ) → value 0 (replicate k 32 ++ s) ≡ value 0 s
unfolding value
value-blanks zero s = refl
value-blanks (suc k) s = value-blanks k s

minus-blanks : (k : ℕ) (s : List ℕ) → holds (replicate k 32 ++ s) 45 ≡ holds s 45
unfolding holds
minus-blanks zero s = refl
minus-blanks (suc k) s = minus-blanks k s

no_minus : (s : List ℕ) → all digit s ≡ true → holds s 45 ≡ false
unfolding all holds
no_minus [] e = refl
no_minus (b ∷ s) e =
    let d = digit_low b (and_left (digit b) (all digit s) e) in
    rw (ne_eqb 45 b (λ q. omega (arith, d))) (no_minus s (and_right (digit b) (all digit s) e))

count-digits : (n : ℕ) → all digit (count_text n) ≡ true
unfolding count_text
count-digits n = digits-all 20 n

-- ---- a figure's text says it

module _ (a : ℕ) where
  plus-holds : holds (figure_text (pos a)) 45 ≡ false
  unfolding figure_text aligned
  plus-holds = rw (whole-plus a) (minus-blanks (10 - length (count_text a)) (count_text a) ∙ no_minus (count_text a) (count-digits a))

  plus-value : a < 10 ^ 20 → value 0 (figure_text (pos a)) ≡ a
  unfolding figure_text aligned
  plus-value h = rw (whole-plus a) (value-blanks (10 - length (count_text a)) (count_text a) ∙ count-value a h)

  minus-holds : holds (figure_text (negsuc a)) 45 ≡ true
  unfolding figure_text aligned holds
  minus-holds = rw (whole-minus a) (minus-blanks (10 - length (45 ∷ count_text (suc a))) (45 ∷ count_text (suc a)))

  minus-value : suc a < 10 ^ 20 → value 0 (figure_text (negsuc a)) ≡ suc a
  unfolding figure_text aligned value
  minus-value h = rw (whole-minus a) (value-blanks (10 - length (45 ∷ count_text (suc a))) (45 ∷ count_text (suc a)) ∙ count-value (suc a) h)

pub figure-said : (z : ℤ) → is_narrow z ≡ true → figure_said (figure_text z) ≡ z
unfolding figure_said
figure-said (pos a) e = rw (plus-holds a, plus-value a (narrow-small (pos a) e))
figure-said (negsuc a) e = rw (minus-holds a, minus-value a (narrow-small (negsuc a) e))

-- ---- the length of a field

pub figure-sizes : (z : ℤ) → (10 ≤ length (figure_text z)) × (length (whole_text z) ≤ length (figure_text z))
unfolding figure_text aligned
figure-sizes z =
    let l = length-append (replicate {A = ℕ} (10 - length (whole_text z)) 32) (whole_text z) in
    let k = length-replicate {A = ℕ} (10 - length (whole_text z)) 32 in
    (omega (arith, l, k), omega (arith, l, k))

pub narrow-by-size : (z : ℤ) → length (figure_text z) ≤ 10 → is_narrow z ≡ true
unfolding is_narrow
narrow-by-size z h = le-leb (length (whole_text z)) 10 (omega (arith, (figure-sizes z).1))
