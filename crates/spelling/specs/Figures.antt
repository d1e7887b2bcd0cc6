-- The characters of a whole number of either sign, as a SUP file has them: document 02, T-01, "figures have no plus, minus zero or
-- needless zero". Assumes nothing: these are definitions.
use Rattle.std.specs.Prelude.{ℕ, ◌≡◌, refl, List, ◌++◌, Bool, true, false, length, leb, ℤ, pos, neg_ℤ, nat_abs}
use Rattle.laws.specs.Text.{text}
use Rattle.spelling.specs.Spelling.{digits, count_text, aligned, minus}

-- "a 10-character right field"
abbrev pub figure_width : ℕ
figure_width = 10

-- a number's digits, `-` in front of them below zero
unfoldable pub whole_text : ℤ → List ℕ
whole_text z = minus z ++ count_text (nat_abs z)

-- it finds room in its field: refusal 23 is a "figure over 10 characters", and a minus counts
unfoldable pub is_narrow : ℤ → Bool
is_narrow z = leb (length (whole_text z)) figure_width

-- right aligned in its field
unfoldable pub figure_text : ℤ → List ℕ
figure_text z = aligned figure_width (whole_text z)

-- ---- computed

figure-nought : figure_text (pos 0) ≡ text "         0"
unfolding figure_text whole_text aligned minus count_text digits
figure-nought = refl

figure-below : figure_text (neg_ℤ (pos 21)) ≡ text "       -21"
unfolding figure_text whole_text aligned minus count_text digits
figure-below = refl

-- ten characters pass, eleven do not, and the minus is one
figure-most : (figure_text (pos 9999999999) ≡ text "9999999999") × (is_narrow (pos 9999999999) ≡ true) × (is_narrow (pos 10000000000) ≡ false)
unfolding figure_text is_narrow whole_text aligned minus count_text digits
figure-most = (refl, refl, refl)

figure-least : (figure_text (neg_ℤ (pos 999999999)) ≡ text "-999999999") × (is_narrow (neg_ℤ (pos 999999999)) ≡ true) × (is_narrow (neg_ℤ (pos 1000000000)) ≡ false)
unfolding figure_text is_narrow whole_text aligned minus count_text digits
figure-least = (refl, refl, refl)
