-- A line of a SUP file: document 02, T-01, "Lines are an 11-character left field and a 10-character right field, CR LF"; the specification's
-- 1.2.1: the first is left aligned, the second right aligned. Assumes nothing: these are definitions.
use Rattle.std.specs.Prelude.{ℕ, ◌-◌, List, [], ◌∷◌, ◌++◌, length, replicate, ℤ}
use Rattle.layout.specs.Sheet.{line}
use Rattle.spelling.specs.Spelling.{aligned}
use Rattle.spelling.specs.Figures.{figure_width, figure_text}

abbrev pub name_width : ℕ
name_width = 11

-- both fields, CR and LF
abbrev pub line_width : ℕ
line_width = 23

unfoldable pub left_field : List ℕ → List ℕ
left_field s = s ++ replicate (name_width - length s) 32

-- a line of two fields, the right one as it stands
unfoldable pub fields_line : List ℕ → List ℕ → List ℕ
fields_line left right = line (left_field left ++ right)

-- the first line's right field: the date, right aligned
unfoldable pub date_text : List ℕ → List ℕ
date_text date = aligned figure_width date

-- any other line: a name or a code, and a figure
pub record FigureLine : Type 0 where
  pub name : List ℕ
  pub amount : ℤ

abbrev pub figure_line : List ℕ → ℤ → FigureLine
figure_line name amount = record { name = name; amount = amount }

unfoldable pub lines_text : List FigureLine → List ℕ
lines_text [] = []
lines_text (x ∷ s) = fields_line x.name (figure_text x.amount) ++ lines_text s
