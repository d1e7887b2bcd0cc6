-- The date of a SUP file: document 02, T-01, "a date of eight digits, month 01-12, day 01-31". Nothing more is asked of it: the 31st of any
-- month and the year 0000 pass. Assumes nothing: these are definitions.
use Rattle.std.specs.Prelude.{ℕ, ◌+◌, ◌-◌, ◌*◌, ◌≡◌, refl, List, Bool, true, false, ◌&&◌, length, get_or, leb, eqb}
use Rattle.laws.specs.Lists.{all_at}
use Rattle.laws.specs.Text.{text}
use Rattle.number.specs.Number.{digit}

abbrev pub date_width : ℕ
date_width = 8

-- a byte of a date, at any place
abbrev pub date_byte : ℕ → ℕ → Bool
date_byte i b = digit b

-- the number that two digits make
abbrev pub two_digits : List ℕ → ℕ → ℕ
two_digits s i = 10 * (get_or s i 0 - 48) + (get_or s (i + 1) 0 - 48)

abbrev pub is_from_to : ℕ → ℕ → ℕ → Bool
is_from_to low high n = leb low n && leb n high

-- year, month, day
unfoldable pub is_date : List ℕ → Bool
is_date s = eqb (length s) date_width && (all_at date_byte 0 s && (is_from_to 1 12 (two_digits s 4) && is_from_to 1 31 (two_digits s 6)))

-- ---- computed

dates : (is_date (text "19990712") ≡ true) × (is_date (text "20230231") ≡ true) × (is_date (text "00001201") ≡ true)
unfolding is_date all_at
dates = (refl, refl, refl)

no-dates : (is_date (text "20230001") ≡ false) × (is_date (text "20231301") ≡ false) × (is_date (text "20230100") ≡ false) × (is_date (text "20230132") ≡ false)
    × (is_date (text "2023011") ≡ false) × (is_date (text "202301011") ≡ false) × (is_date (text "2023-1-1") ≡ false)
unfolding is_date all_at
no-dates = (refl, refl, refl, refl, refl, refl, refl)
