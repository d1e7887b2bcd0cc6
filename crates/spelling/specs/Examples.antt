-- Numbers of document 01 as exact mode and the listing have them, computed.
use Rattle.std.specs.Prelude.{◌≡◌, refl, [], ◌∷◌, length, pos, neg_ℤ}
use Rattle.spelling.specs.Spelling.{digits, places, count_text, aligned, integer_text, minus, decimal, bare_real, real_text}

-- `   0`
nought : integer_text 0 ≡ 32 ∷ 32 ∷ 32 ∷ 48 ∷ []
unfolding integer_text aligned digits
nought = refl

-- `  18`
eighteen : integer_text 18 ≡ 32 ∷ 32 ∷ 49 ∷ 56 ∷ []
unfolding integer_text aligned digits
eighteen = refl

-- `9999`
integer-most : integer_text 9999 ≡ 57 ∷ 57 ∷ 57 ∷ 57 ∷ []
unfolding integer_text aligned digits
integer-most = refl

-- `      -0.005`: the sign is the number's, not its whole part's
minus-five : real_text (neg_ℤ (pos 5)) ≡ 32 ∷ 32 ∷ 32 ∷ 32 ∷ 32 ∷ 32 ∷ 45 ∷ 48 ∷ 46 ∷ 48 ∷ 48 ∷ 53 ∷ []
unfolding real_text bare_real aligned minus decimal digits places
minus-five = refl

-- `       0.000`
real-nought : real_text (pos 0) ≡ 32 ∷ 32 ∷ 32 ∷ 32 ∷ 32 ∷ 32 ∷ 32 ∷ 48 ∷ 46 ∷ 48 ∷ 48 ∷ 48 ∷ []
unfolding real_text bare_real aligned minus decimal digits places
real-nought = refl

-- `-9999999.999`
real-least : real_text (neg_ℤ (pos 9999999999)) ≡ 45 ∷ 57 ∷ 57 ∷ 57 ∷ 57 ∷ 57 ∷ 57 ∷ 57 ∷ 46 ∷ 57 ∷ 57 ∷ 57 ∷ []
unfolding real_text bare_real aligned minus decimal digits places
real-least = refl

-- `99999999.999`
real-most : real_text (pos 99999999999) ≡ 57 ∷ 57 ∷ 57 ∷ 57 ∷ 57 ∷ 57 ∷ 57 ∷ 57 ∷ 46 ∷ 57 ∷ 57 ∷ 57 ∷ []
unfolding real_text bare_real aligned minus decimal digits places
real-most = refl

-- `-0.005` and `25851.575`, bare
bare-minus-five : bare_real (neg_ℤ (pos 5)) ≡ 45 ∷ 48 ∷ 46 ∷ 48 ∷ 48 ∷ 53 ∷ []
unfolding bare_real minus decimal digits places
bare-minus-five = refl

bare-plus : bare_real (pos 25851575) ≡ 50 ∷ 53 ∷ 56 ∷ 53 ∷ 49 ∷ 46 ∷ 53 ∷ 55 ∷ 53 ∷ []
unfolding bare_real minus decimal digits places
bare-plus = refl

-- `0` and `400000000`, as they are listed
listed-nought : count_text 0 ≡ 48 ∷ []
unfolding count_text digits
listed-nought = refl

listed-area : count_text 400000000 ≡ 52 ∷ 48 ∷ 48 ∷ 48 ∷ 48 ∷ 48 ∷ 48 ∷ 48 ∷ 48 ∷ []
unfolding count_text digits
listed-area = refl

-- ten thousand does not find room in four characters, nor the next real below the least in twelve
too_wide : (length (digits 5 10000) ≡ 5) × (length (bare_real (neg_ℤ (pos 10000000000))) ≡ 13)
unfolding bare_real minus decimal digits places
too_wide = (refl, refl)
