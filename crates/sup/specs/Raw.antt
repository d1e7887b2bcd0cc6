-- For private contracts alone: the lines of the listed borders while they are put in order. In place of its figure such a line has ten bytes whose
-- order is that of the figures; of equal codes a smaller exact area has no greater figure. Assumes nothing: these are definitions.
use Rattle.std.specs.Prelude.{ℕ, ◌+◌, ◌*◌, ◌/◌, ◌%◌, ◌≡◌, refl, List, [], ◌∷◌, map, cond, length, get_or, ℤ, pos, negsuc, nat_abs, ◌+ℤ◌, ◌-ℤ◌}
use Rattle.laws.specs.Lists.{over, pasted}
use Rattle.sheet.specs.Tables.{Tables}
use Rattle.made.specs.Made.{letters_of}
use Rattle.row.specs.declared.Stand.{Stand}
use Rattle.row.specs.Walk.{left_at}
use Rattle.spelling.specs.Figures.{is_narrow, figure_text}
use Rattle.sorting.specs.Lines.{lines_in, joined}
use Rattle.sup.specs.Lines.{name_width, line_width, fields_line}
use Rattle.sup.specs.Printing.{metres_left}

-- ---- a figure as bytes

-- no figure that finds room is below its opposite
abbrev pub raw_lift : ℕ
raw_lift = 1000000000

unfoldable pub raw_number : ℤ → ℕ
raw_number z = nat_abs (z +ℤ pos raw_lift)

-- the greatest byte first
unfoldable pub raw_bytes : ℕ → List ℕ
raw_bytes n =
    0 ∷ 0 ∷ 0 ∷ 0 ∷ 0
    ∷ (n / 256 / 256 / 256 / 256) ∷ (n / 256 / 256 / 256 % 256) ∷ (n / 256 / 256 % 256) ∷ (n / 256 % 256) ∷ (n % 256) ∷ []

unfoldable pub raw_field : ℤ → List ℕ
raw_field z = raw_bytes (raw_number z)

-- ---- back from bytes

-- the number of the five bytes from `at` on
unfoldable pub number_from : List ℕ → ℕ → ℕ
number_from s at = (((get_or s at 0 * 256 + get_or s (at + 1) 0) * 256 + get_or s (at + 2) 0) * 256 + get_or s (at + 3) 0) * 256 + get_or s (at + 4) 0

-- behind the name and five bytes of nothing
unfoldable pub figure_in : List ℕ → ℤ
figure_in x = pos (number_from x 16) -ℤ pos raw_lift

-- a line with its figure in place of the bytes
unfoldable pub figured : List ℕ → List ℕ
figured x = cond (is_narrow (figure_in x)) (pasted x name_width (figure_text (figure_in x))) x

unfoldable pub figured_lines : List ℕ → List ℕ
figured_lines s = over (joined (map figured (lines_in (length s / line_width) s))) s

-- ---- the listed borders

-- the first row of what is left
unfoldable pub raw_line : Tables → List ℕ
raw_line t = fields_line (letters_of t) (raw_field (metres_left t))

abbrev pub raw_text : Tables → List Stand → List ℕ
raw_text t s = joined (map (λ (d : Stand). raw_line (left_at t d)) s)

-- ---- computed

raw-bytes : (raw_field (pos 0) ≡ 0 ∷ 0 ∷ 0 ∷ 0 ∷ 0 ∷ 0 ∷ 59 ∷ 154 ∷ 202 ∷ 0 ∷ []) × (raw_field (negsuc 999999998) ≡ 0 ∷ 0 ∷ 0 ∷ 0 ∷ 0 ∷ 0 ∷ 0 ∷ 0 ∷ 0 ∷ 1 ∷ [])
    × (raw_field (pos 9999999999) ≡ 0 ∷ 0 ∷ 0 ∷ 0 ∷ 0 ∷ 2 ∷ 143 ∷ 166 ∷ 173 ∷ 255 ∷ [])
unfolding raw_field raw_bytes raw_number
raw-bytes = (refl, refl, refl)
