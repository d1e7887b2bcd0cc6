-- A right line of a SUP file that came with a delivery: document 02, T-10, "each line's form, the names, counts and order are T-01's .. State the
-- allowances over doubled square millimetres". Assumes nothing: these are definitions.
use Rattle.std.specs.Prelude.{ℕ, ◌-◌, ◌*◌, ◌≡◌, refl, List, Bool, true, false, cond, ◌&&◌, take, drop, ℤ, pos, neg_ℤ, nat_abs, ◌-ℤ◌, ◌*ℤ◌}
use Rattle.std.specs.Int.Signed.{le_z}
use Rattle.laws.specs.Lists.{same, holds}
use Rattle.laws.specs.Text.{text}
use Rattle.number.specs.Number.{value}
use Rattle.spelling.specs.Figures.{figure_width, figure_text}
use Rattle.sup.specs.Metres.{doubled_metre}
use Rattle.sup.specs.Date.{date_width, is_date}
use Rattle.sup.specs.Lines.{name_width, line_width, fields_line, date_text}

-- ---- what stands in a line

-- the file from line k on, counted from 0: each line before it has its 23 bytes
unfoldable pub line_from : List ℕ → ℕ → List ℕ
line_from s k = drop (line_width * k) s

-- the right field of the first line of s
unfoldable pub right_field : List ℕ → List ℕ
right_field s = take figure_width (drop name_width s)

-- the number that a field says: its digits, less than nothing where a `-` stands in it. Blanks and `-` are no digits and add none; whether the
-- field has T-01's form is for `is_right_line` to say
unfoldable pub figure_said : List ℕ → ℤ
figure_said s = cond (holds s 45) (neg_ℤ (pos (value 0 s))) (pos (value 0 s))

unfoldable pub figure_in : List ℕ → ℤ
figure_in s = figure_said (right_field s)

-- where a date stands, right aligned
unfoldable pub date_in : List ℕ → List ℕ
date_in s = take date_width (drop (line_width - 2 - date_width) s)

-- ---- its form

-- "Lines are an 11-character left field and a 10-character right field, CR LF": the first line of s is T-01's line of this name and this right field.
-- A name of more than 11 letters makes T-01's line longer than any line, so none is it
unfoldable pub is_fields : List ℕ → List ℕ → List ℕ → Bool
is_fields name right s = same (take line_width s) (fields_line name right)

-- ---- its figure

-- |2,000,000 F - D| ≤ 2,000,000 n: F square metres differ from D doubled square millimetres by at most n square metres
unfoldable pub is_near : ℤ → ℤ → ℤ → Bool
is_near f d n = le_z (pos (nat_abs (pos doubled_metre *ℤ f -ℤ d))) (pos doubled_metre *ℤ n)

-- what a figure has to be near, and how many square metres are allowed
pub record Due : Type 0 where
  pub exact : ℤ
  pub allowance : ℤ

abbrev pub due : ℤ → ℤ → Due
due exact allowance = record { exact = exact; allowance = allowance }

-- a number itself: as many square metres, and nothing is allowed
abbrev pub counted : ℤ → Due
counted z = due (pos doubled_metre *ℤ z) (pos 0)

-- a line that is due
pub record DueLine : Type 0 where
  pub name : List ℕ
  pub figure : Due

abbrev pub due_line : List ℕ → Due → DueLine
due_line name figure = record { name = name; figure = figure }

-- the first line of s is T-01's line of that name and the figure that stands there, and that figure is near enough
unfoldable pub is_right_line : DueLine → List ℕ → Bool
is_right_line x s = is_fields x.name (figure_text (figure_in s)) s && is_near (figure_in s) x.figure.exact x.figure.allowance

-- "the date is any that T-01 takes"
unfoldable pub is_right_date : List ℕ → List ℕ → Bool
is_right_date name s = is_date (date_in s) && is_fields name (date_text (date_in s)) s

-- ---- computed: the allowance, exactly and one more, on both sides

near : (is_near (pos 7) (pos 14000000) (pos 0) ≡ true) × (is_near (pos 7) (pos 14000001) (pos 0) ≡ false) × (is_near (pos 7) (pos 13999999) (pos 0) ≡ false)
    × (is_near (pos 7) (pos 16000000) (pos 1) ≡ true) × (is_near (pos 7) (pos 16000001) (pos 1) ≡ false)
    × (is_near (pos 7) (pos 12000000) (pos 1) ≡ true) × (is_near (pos 7) (pos 11999999) (pos 1) ≡ false)
unfolding is_near
near = (refl, refl, refl, refl, refl, refl, refl)

near-below : (is_near (neg_ℤ (pos 7)) (neg_ℤ (pos 18000000)) (pos 2) ≡ true) × (is_near (neg_ℤ (pos 7)) (neg_ℤ (pos 18000001)) (pos 2) ≡ false)
    × (is_near (pos 1) (neg_ℤ (pos 2000000)) (pos 2) ≡ true) × (is_near (pos 1) (neg_ℤ (pos 2000001)) (pos 2) ≡ false)
unfolding is_near
near-below = (refl, refl, refl, refl)

-- "n = 0 demands F = 0": nothing is counted, nothing is allowed
near_none : (is_near (pos 0) (pos 0) (pos 0) ≡ true) × (is_near (pos 1) (pos 0) (pos 0) ≡ false) × (is_near (neg_ℤ (pos 1)) (pos 0) (pos 0) ≡ false)
unfolding is_near
near_none = (refl, refl, refl)

said : (figure_said (text "       -21") ≡ neg_ℤ (pos 21)) × (figure_said (text "9999999999") ≡ pos 9999999999) × (figure_said (text "         0") ≡ pos 0)
unfolding figure_said holds value
said = (refl, refl, refl)
