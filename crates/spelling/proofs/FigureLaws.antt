-- The laws of a figure's text: it is the number's only form, with no needless zero, and which numbers find room in ten characters.
-- Assumes nothing.
use Prim.Native.Nat.{ℕ, suc, ◌^◌, ◌≤◌, ◌<◌}
use mathlib.Core.Path.{◌≡◌, refl, sym, ◌∙◌, ap}
use mathlib.Core.List.{List, ◌∷◌}
use mathlib.Core.Bool.{Bool, true, false}
use native.Mathlib.Omega.{arith}
use lib.ListN.{length, get_or}
use lib.IntN.{ℤ, pos, negsuc, nat_abs}
use lib.Dec.{leb}
use borrow.Author.Tests.{le-leb, lt-leb, leb-true, leb-false}
use Rattle.laws.specs.Lists.{run}
use Rattle.laws.proofs.ListLaws.{run_none, all-each}
use Rattle.number.specs.Words.{blank, unled}
use Rattle.number.specs.Number.{digit, value, lean}
use Rattle.spelling.specs.Spelling.{digits, count_text, minus}
use Rattle.spelling.specs.Figures.{whole_text, is_narrow, figure_text}
use Rattle.spelling.proofs.DigitLaws.{digit_low, digits-all, digits-some, digits-fit, digits-least, digits-lean, digits_value}
use Rattle.spelling.proofs.SpellingLaws.{minus-none, aligned-length, aligned-unled, no-blank}

-- ---- a whole number's text

pub whole-plus : (a : ℕ) → whole_text (pos a) ≡ count_text a
unfolding whole_text
whole-plus a = rw (minus-none a)

pub whole-minus : (a : ℕ) → whole_text (negsuc a) ≡ 45 ∷ count_text (suc a)
unfolding whole_text minus
whole-minus a = refl

-- numbers of 64 bits have at most twenty digits
module _ (n : ℕ) (h : n < 10 ^ 20) where
  -- no digit is lost
  pub count-value : value 0 (count_text n) ≡ n
  unfolding count_text
  count-value = digits_value 20 n h

  -- no needless zero
  pub count-lean : lean (count_text n) (length (count_text n)) ≡ true
  unfolding count_text
  count-lean = digits-lean 20 n h

-- it begins with a digit
count-digit : (n : ℕ) → digit (get_or (count_text n) 0 0) ≡ true
unfolding count_text
count-digit n = all-each digit (digits 20 n) 0 (digits-all 20 n) (digits-some 20 n (omega arith))

count-first : (n : ℕ) → 48 ≤ get_or (count_text n) 0 0
count-first n = digit_low (get_or (count_text n) 0 0) (count-digit n)

count_same : (a b : ℕ) → a < 10 ^ 20 → b < 10 ^ 20 → count_text a ≡ count_text b → a ≡ b
count_same a b h k e = sym (count-value a h) ∙ ap (value 0) e ∙ count-value b k

-- one form for one number: two numbers that are printed alike are one
pub whole_same : (a b : ℤ) → nat_abs a < 10 ^ 20 → nat_abs b < 10 ^ 20 → whole_text a ≡ whole_text b → a ≡ b
whole_same (pos a) (pos b) h k e = ap pos (count_same a b h k (rw (whole-plus a, whole-plus b) at e))
whole_same (pos a) (negsuc b) h k e =
    absurd (let f : count_text a ≡ 45 ∷ count_text (suc b) = rw (whole-plus a, whole-minus b) at e in omega (arith, count-first a, ap (λ (s : List ℕ). get_or s 0 0) f))
whole_same (negsuc a) (pos b) h k e =
    absurd (let f : 45 ∷ count_text (suc a) ≡ count_text b = rw (whole-plus b, whole-minus a) at e in omega (arith, count-first b, ap (λ (s : List ℕ). get_or s 0 0) f))
whole_same (negsuc a) (negsuc b) h k e =
    let f : 45 ∷ count_text (suc a) ≡ 45 ∷ count_text (suc b) = rw (whole-minus a, whole-minus b) at e in
    let g : count_text (suc a) ≡ count_text (suc b) = cc in
    let n : suc a ≡ suc b = count_same (suc a) (suc b) h k g in
    let m : a ≡ b = omega arith in
    ap negsuc m

-- ---- right aligned in ten characters

whole-unled : (z : ℤ) → run blank (whole_text z) ≡ 0
whole-unled (pos a) = rw (whole-plus a) (no-blank (count_text a) (count-digit a))
whole-unled (negsuc a) = rw (whole-minus a) (run_none blank (45 ∷ count_text (suc a)) refl)

-- in its field too a number has one form, and no two have the same
pub figure-same : (a b : ℤ) → nat_abs a < 10 ^ 20 → nat_abs b < 10 ^ 20 → figure_text a ≡ figure_text b → a ≡ b
unfolding figure_text
figure-same a b h k e =
    whole_same a b h k (sym (aligned-unled 10 (whole_text a) (whole-unled a)) ∙ ap unled e ∙ aligned-unled 10 (whole_text b) (whole-unled b))

pub figure-length : (z : ℤ) → is_narrow z ≡ true → length (figure_text z) ≡ 10
unfolding figure_text is_narrow
figure-length z e = aligned-length 10 (whole_text z) (leb-true (length (whole_text z)) 10 e)

pub narrow-plus : (a : ℕ) → is_narrow (pos a) ≡ leb a 9999999999
unfolding is_narrow count_text
narrow-plus a = rw (whole-plus a) (go (leb a 9999999999) refl)
  where
    go : (t : Bool) → leb a 9999999999 ≡ t → leb (length (digits 20 a)) 10 ≡ t
    go true e = le-leb (length (digits 20 a)) 10 (digits-fit 20 10 a (omega arith) (omega (arith, leb-true a 9999999999 e)))
    go false e = lt-leb (length (digits 20 a)) 10 (digits-least 20 10 a (omega arith) (omega (arith, leb-false a 9999999999 e)))

pub narrow-minus : (a : ℕ) → is_narrow (negsuc a) ≡ leb a 999999998
unfolding is_narrow count_text
narrow-minus a = rw (whole-minus a) (go (leb a 999999998) refl)
  where
    go : (t : Bool) → leb a 999999998 ≡ t → leb (suc (length (digits 20 (suc a)))) 10 ≡ t
    go true e = le-leb (suc (length (digits 20 (suc a)))) 10 (omega (arith, digits-fit 20 9 (suc a) (omega arith) (omega (arith, leb-true a 999999998 e))))
    go false e = lt-leb (suc (length (digits 20 (suc a)))) 10 (omega (arith, digits-least 20 9 (suc a) (omega arith) (omega (arith, leb-false a 999999998 e))))
