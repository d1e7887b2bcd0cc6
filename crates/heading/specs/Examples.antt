-- Headers that are handed in, and their names, computed: document 01, "Header and EOF" and refusal 6.
use Prim.Native.String.{String}
use Rattle.std.specs.Prelude.{ℕ, ◌≡◌, refl, Bool, true, false, pos, negsuc}
use Rattle.laws.specs.Lists.{same, all_at}
use Rattle.laws.specs.Text.{text}
use Rattle.heading.specs.declared.Header.{Header}
use Rattle.heading.specs.Heading.{name_byte, is_name, is_header}

-- `is_header` with every definition opened, so that it computes
unfoldable pub computed : Header → Bool
unfolding is_header is_name name_byte all_at same
computed h = is_header h

abbrev header : ℕ → String → ℕ → Header
header kind name scale = record { kind = kind; name = text name; scale = pos scale }

-- a capital letter, three digits, a capital letter or `_`, four digits, then two of 0-9 or A-Z
names : (is_name 1 (text "H501_0123A0") ≡ true) × (is_name 1 (text "H501A01230Z") ≡ true) × (is_name 1 (text "5501_0123A0") ≡ false)
    × (is_name 1 (text "H50A_0123A0") ≡ false) × (is_name 1 (text "H501-0123A0") ≡ false) × (is_name 1 (text "H501_012AA0") ≡ false)
    × (is_name 1 (text "H501_0123_0") ≡ false)
unfolding computed
names = (refl, refl, refl, refl, refl, refl, refl)

-- no lower case
lower-case : (is_name 1 (text "h501_0123A0") ≡ false) × (is_name 1 (text "H501a0123A0") ≡ false) × (is_name 1 (text "H501_0123a0") ≡ false)
unfolding computed
lower-case = (refl, refl, refl)

-- 11 characters
name-length : (is_name 1 (text "H501_0123A") ≡ false) × (is_name 1 (text "H501_0123A00") ≡ false)
unfolding computed
name-length = (refl, refl)

-- kind 3 alone asks for `QU` at the end
union : (is_name 3 (text "H501_0000QU") ≡ true) × (is_name 3 (text "H501_000000") ≡ false) × (is_name 2 (text "H501_000000") ≡ true) × (is_name 1 (text "H501_0000QU") ≡ true)
unfolding computed
union = (refl, refl, refl, refl)

-- kinds 1 to 3
kinds : (is_header (header 0 "H501_012300" 1) ≡ false) × (is_header (header 1 "H501_012300" 1) ≡ true) × (is_header (header 2 "H501_012300" 1) ≡ true)
    × (is_header (header 3 "H501_0000QU" 1) ≡ true) × (is_header (header 3 "H501_012300" 1) ≡ false) × (is_header (header 4 "H501_0000QU" 1) ≡ false)
unfolding computed
kinds = (refl, refl, refl, refl, refl, refl)

-- a scale above 0, at most the greatest real
scales : (is_header (header 1 "H501_012300" 0) ≡ false) × (is_header (record { kind = 1; name = text "H501_012300"; scale = negsuc 0 }) ≡ false)
    × (is_header (header 1 "H501_012300" 99999999999) ≡ true) × (is_header (header 1 "H501_012300" 100000000000) ≡ false)
unfolding computed
scales = (refl, refl, refl, refl)
