-- The marked examples (a) to (g) of document 01, and its other rules of numbers and words, computed: "Records".
use Rattle.std.specs.Prelude.{ℕ, ◌≡◌, refl, true, false, List, [], ◌∷◌, ℤ, pos, neg_ℤ, Option, Some, None}
use Rattle.laws.specs.Lists.{run, kept, all}
use Rattle.laws.specs.Text.{text}
use Rattle.record.specs.declared.Mode.{Mode}
use Rattle.record.specs.declared.Mode.TheVariants.{Loose, Exact, Former}
use Rattle.number.specs.declared.Word.{Word}
use Rattle.number.specs.Words.{unled, trimmed, word_at, word_of}
use Rattle.number.specs.Number.{value, parted, ended, lean, integer_is, integer_at, integer_of, sign_of, signs, signed, thousandths, is_token, is_neat, real_is, real_at, real_signed, real_of, is_real}

-- the definitions opened, so that they compute
unfoldable pub computed_integer : Mode → List ℕ → Option ℕ
unfolding integer_of integer_at integer_is lean ended parted value unled run all
computed_integer mode c = integer_of mode c

unfoldable pub computed_real : Mode → List ℕ → Option ℤ
unfolding real_of real_signed real_at real_is is_neat is_token thousandths signed signs sign_of lean ended parted value unled run all
computed_real mode c = real_of mode c

unfoldable pub computed_word : Mode → List ℕ → Option Word
unfolding word_of trimmed unled kept run
computed_word mode c = word_of mode c

-- `      -0.005`
abbrev pub tiny : List ℕ
tiny = 32 ∷ 32 ∷ 32 ∷ 32 ∷ 32 ∷ 32 ∷ 45 ∷ 48 ∷ 46 ∷ 48 ∷ 48 ∷ 53 ∷ []

-- `-9999999.999`
abbrev least : List ℕ
least = 45 ∷ 57 ∷ 57 ∷ 57 ∷ 57 ∷ 57 ∷ 57 ∷ 57 ∷ 46 ∷ 57 ∷ 57 ∷ 57 ∷ []

-- `99999999.999`
abbrev most : List ℕ
most = 57 ∷ 57 ∷ 57 ∷ 57 ∷ 57 ∷ 57 ∷ 57 ∷ 57 ∷ 46 ∷ 57 ∷ 57 ∷ 57 ∷ []

-- `-10000000.000`
abbrev below : List ℕ
below = 45 ∷ 49 ∷ 48 ∷ 48 ∷ 48 ∷ 48 ∷ 48 ∷ 48 ∷ 48 ∷ 46 ∷ 48 ∷ 48 ∷ 48 ∷ []

-- `      -0.000`
abbrev pub minus_zero : List ℕ
minus_zero = 32 ∷ 32 ∷ 32 ∷ 32 ∷ 32 ∷ 32 ∷ 45 ∷ 48 ∷ 46 ∷ 48 ∷ 48 ∷ 48 ∷ []

-- `   0`
abbrev nought : List ℕ
nought = 32 ∷ 32 ∷ 32 ∷ 48 ∷ []

-- ` 018`
abbrev pub led_by_zero : List ℕ
led_by_zero = 32 ∷ 48 ∷ 49 ∷ 56 ∷ []

pub a-exact : real_of Exact tiny ≡ Some (neg_ℤ (pos 5))
unfolding computed_real
a-exact = refl

b-exact : real_of Exact least ≡ Some (neg_ℤ (pos 9999999999))
unfolding computed_real
b-exact = refl

c-exact : real_of Exact most ≡ Some (pos 99999999999)
unfolding computed_real
c-exact = refl

d-loose : real_of Loose below ≡ None
unfolding computed_real
d-loose = refl

pub e-loose : real_of Loose minus_zero ≡ Some (pos 0)
unfolding computed_real
e-loose = refl

pub e-exact : real_of Exact minus_zero ≡ None
unfolding computed_real
e-exact = refl

f-exact : integer_of Exact nought ≡ Some 0
unfolding computed_integer
f-exact = refl

pub g-loose : integer_of Loose led_by_zero ≡ Some 18
unfolding computed_integer
g-loose = refl

pub g-exact : integer_of Exact led_by_zero ≡ None
unfolding computed_integer
g-exact = refl

-- ---- integers

-- zeros in front count as digits: four pass, five do not
integer-digits : (integer_of Loose (text "9999") ≡ Some 9999) × (integer_of Exact (text "9999") ≡ Some 9999) × (integer_of Loose (text "0018") ≡ Some 18)
    × (integer_of Loose (text "12345") ≡ None) × (integer_of Loose (text "00018") ≡ None) × (integer_of Loose (text "  ") ≡ None)
unfolding computed_integer
integer-digits = (refl, refl, refl, refl, refl, refl)

-- behind the digits only blanks; no sign, nothing else directly behind them
integer-end : (integer_of Loose (text "7  ") ≡ Some 7) × (integer_of Loose (text "1 234") ≡ None) × (integer_of Loose (text "     7 isole") ≡ None)
    × (integer_of Loose (text "18x") ≡ None) × (integer_of Loose (text "-1") ≡ None) × (integer_of Loose (text "+1") ≡ None)
unfolding computed_integer
integer-end = (refl, refl, refl, refl, refl, refl)

-- in the former reading a blank ends the number, and what follows it is a tail, be it a number
integer-tail : (integer_of Former (text "1 234") ≡ Some 1) × (integer_of Former (text "     7 isole") ≡ Some 7) × (integer_of Former (text "18x") ≡ None)
    × (integer_of Former (text "7  ") ≡ Some 7) × (integer_of Former (text " 018") ≡ Some 18) × (integer_of Former (text "12345 x") ≡ None)
unfolding computed_integer
integer-tail = (refl, refl, refl, refl, refl, refl)

-- exact: 4 characters, right aligned
integer-exact : (integer_of Exact (text "  18") ≡ Some 18) × (integer_of Exact (text " 18") ≡ None) × (integer_of Exact (text "   18") ≡ None)
    × (integer_of Exact (text "18  ") ≡ None)
unfolding computed_integer
integer-exact = (refl, refl, refl, refl)

-- ---- reals

-- a digit before the point, three behind it, the sign directly before the digits, 12 characters with the sign
real-form : (real_of Loose (text ".500") ≡ None) × (real_of Loose (text "5.") ≡ None) × (real_of Loose (text "1.2345") ≡ None)
    × (real_of Loose (text "1.23") ≡ None) × (real_of Loose (text "- 1.000") ≡ None) × (real_of Loose (text "1") ≡ None)
    × (real_of Loose (text "+10000000.000") ≡ None) × (real_of Loose (text "-00000000.001") ≡ None)
    × (real_of Loose (text "123456789.000") ≡ None)
unfolding computed_real
real-form = (refl, refl, refl, refl, refl, refl, refl, refl, refl)

-- what loose mode takes and exact mode does not: `+`, a zero in front, blanks behind, fewer characters
real-loose : (real_of Loose (text "      +1.000") ≡ Some (pos 1000)) × (real_of Loose (text "      00.005") ≡ Some (pos 5))
    × (real_of Loose (text "1.000  ") ≡ Some (pos 1000)) × (real_of Exact (text "      +1.000") ≡ None)
    × (real_of Exact (text "      00.005") ≡ None) × (real_of Exact (text "1.000       ") ≡ None)
    × (real_of Exact (text "1.000") ≡ None) × (real_of Exact (text "       0.005") ≡ Some (pos 5))
unfolding computed_real
real-loose = (refl, refl, refl, refl, refl, refl, refl, refl)

-- a tail: in the former reading alone, and behind a blank
real-tail : (real_of Former (text "1.000 m") ≡ Some (pos 1000)) × (real_of Loose (text "1.000 m") ≡ None) × (real_of Former (text "1.000m") ≡ None)
    × (real_of Former (text "-1.000 2.000") ≡ Some (neg_ℤ (pos 1000))) × (real_of Loose (text "-1.000 2.000") ≡ None)
unfolding computed_real
real-tail = (refl, refl, refl, refl, refl)

-- the range's ends are in it, the next numbers are not
real-range : (is_real (neg_ℤ (pos 9999999999)) ≡ true) × (is_real (neg_ℤ (pos 10000000000)) ≡ false) × (is_real (pos 99999999999) ≡ true) × (is_real (pos 100000000000) ≡ false)
unfolding is_real
real-range = (refl, refl, refl, refl)

-- ---- words

-- loose mode drops the blanks at both ends and none inside; exact mode permits none at either end
word-blanks : (word_of Loose (text "  a b ") ≡ word_at 2 3) × (word_of Exact (text "a  b") ≡ word_at 0 4) × (word_of Exact (text " a") ≡ None)
    × (word_of Exact (text "a ") ≡ None) × (word_of Loose (text "  ") ≡ word_at 2 0)
unfolding computed_word
word-blanks = (refl, refl, refl, refl, refl)
