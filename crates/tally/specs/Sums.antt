-- What the rows of a sheet add to a tally, as one sum: document 01, "Areas". Assumes nothing: these are definitions.
use Rattle.std.specs.Prelude.{ℕ, zero, suc, ◌+◌, List, Bool, true, false, cond, ◌&&◌, get_or, ℤ, pos, ◌+ℤ◌, Result, Ok, Err}
use Rattle.heading.specs.declared.Header.{Header}
use Rattle.sheet.specs.Tables.{Tables}
use Rattle.made.specs.Made.{rest_of}
use Rattle.border.specs.declared.Border.{Border}
use Rattle.classes.specs.Classes.{index_of}
use Rattle.border.specs.Borders.{is_border, border_of}
use Rattle.plane.specs.declared.NoArea.{NoArea}
use Rattle.area.specs.declared.Areas.{Areas}
use Rattle.tally.specs.Tally.{is_tally, no_figures, plus, figures_of}
use Rattle.tally.specs.Take.{borders_areas}

-- one border's own figures, where it has areas, and whether they are figures
abbrev pub own_of : Border → ℤ → ℤ → List ℤ
own_of b outer inner = figures_of (index_of b.class) outer (pos b.islands) inner

abbrev pub area_figures : Border → Result Areas NoArea → List ℤ
area_figures b (Ok r) = own_of b r.outer r.inner
area_figures b (Err e) = no_figures

abbrev pub area_fits : Border → Result Areas NoArea → Bool
area_fits b (Ok r) = is_tally (own_of b r.outer r.inner)
area_fits b (Err e) = false

-- the first row of what is left
unfoldable pub row_figures : Header → Tables → List ℤ
row_figures h t = cond (is_border t) (area_figures (border_of h t) (borders_areas t)) no_figures

unfoldable pub row_fits : Header → Tables → Bool
row_fits h t = cond (is_border t) (area_fits (border_of h t) (borders_areas t)) true

-- n rows
unfoldable pub rows_figures : Header → ℕ → Tables → List ℤ
rows_figures h zero t = no_figures
rows_figures h (suc n) t = plus (row_figures h t) (rows_figures h n (rest_of t))

unfoldable pub rows_fit : Header → ℕ → Tables → Bool
rows_fit h zero t = true
rows_fit h (suc n) t = row_fits h t && rows_fit h n (rest_of t)

-- how many of them are borders, and how many borders a tally counts
unfoldable pub border_rows : ℕ → Tables → ℕ
border_rows zero t = 0
border_rows (suc n) t = cond (is_border t) 1 0 + border_rows n (rest_of t)

unfoldable pub border_count : List ℤ → ℤ
border_count s =
    get_or s 0 (pos 0) +ℤ (get_or s 4 (pos 0) +ℤ (get_or s 8 (pos 0) +ℤ (get_or s 12 (pos 0) +ℤ (get_or s 16 (pos 0) +ℤ get_or s 20 (pos 0)))))
