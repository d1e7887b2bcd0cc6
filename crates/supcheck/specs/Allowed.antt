-- The files that are accepted for one sheet: T-01's text with any date that it takes, and with any figures that are allowed (document 02, T-10). Assumes
-- nothing: these are definitions.
use Rattle.std.specs.Prelude.{ℕ, ◌+◌, ◌≤◌, ◌≡◌, List, [], ◌∷◌, ◌++◌, true, length, get_or, ℤ, pos, ◌-ℤ◌}
use Rattle.heading.specs.declared.Header.{Header}
use Rattle.spelling.specs.Figures.{is_narrow}
use Rattle.sup.specs.Date.{is_date}
use Rattle.sup.specs.Lines.{name_width, FigureLine, figure_line, fields_line, date_text, lines_text}
use Rattle.sup.specs.Sup.{CodeNet, figure_lines}
use Rattle.supline.specs.Right.{DueLine, is_near}
use Rattle.supcheck.specs.Due.{due_with}

-- lines with other figures
unfoldable pub lines_with : List FigureLine → List ℤ → List FigureLine
lines_with [] z = []
lines_with (x ∷ l) [] = []
lines_with (x ∷ l) (y ∷ z) = figure_line x.name y ∷ lines_with l z

-- each name and each figure finds room, and the figure is near enough to what is due
pub data Allowed : List DueLine → List ℤ → Type 0 where
  none_due : Allowed [] []
  next_due : {x : DueLine} {l : List DueLine} {y : ℤ} {z : List ℤ} → length x.name ≤ name_width → is_narrow y ≡ true
      → is_near y x.figure.exact x.figure.allowance ≡ true → Allowed l z → Allowed (x ∷ l) (y ∷ z)

-- TOTALE less CONFINE: of the figures six stand before the m listed borders, and four behind them before TOTALE
unfoldable pub balance_of : ℕ → List ℤ → ℤ
balance_of m z = get_or z (10 + m) (pos 0) -ℤ get_or z (11 + m) (pos 0)

-- T-01's text for the tally `f` and the listed borders `c`, with this date and these figures
unfoldable pub text_with : Header → List ℤ → List CodeNet → List ℕ → List ℤ → List ℕ
text_with h f c date z = fields_line h.name (date_text date) ++ lines_text (lines_with (figure_lines h.kind f c) z)

-- a file that differs from T-01's text in the date and in figures within the allowances, and nowhere else
pub record AllowedFile (h : Header) (f : List ℤ) (c : List CodeNet) (s : List ℕ) : Type 0 where
  pub date : List ℕ
  pub figures : List ℤ
  pub named : length h.name ≤ name_width
  pub dated : is_date date ≡ true
  pub allowed : Allowed (due_with h.kind f c (balance_of (length c) figures)) figures
  pub is : s ≡ text_with h f c date figures
