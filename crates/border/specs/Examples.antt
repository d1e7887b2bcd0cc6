-- Rows as texts and as borders by example, computed: document 01, "Border classes" and its (l). Assumes nothing.
use Rattle.std.specs.Prelude.{ℕ, ◌≡◌, refl, List, [], ◌∷◌, ◌++◌, true, false, ℤ, pos, Result, Ok, Err}
use Prim.Native.String.{String}
use Rattle.laws.specs.Text.{text}
use Rattle.heading.specs.declared.Header.{Header}
use Rattle.sheet.specs.Tables.{Tables}
use Rattle.made.specs.declared.Flaw.TheVariants.{BadHeader, Faulty}
use Rattle.made.specs.Made.{tables_of}
use Rattle.made.specs.Examples.{header, at_first, placed, labelled, raster, book, ring}
use Rattle.row.specs.declared.Unfound.{Unfound}
use Rattle.row.specs.declared.Unfound.TheVariants.{Missing, Refused}
use Rattle.row.specs.Examples.{computed as computed_sought}
use Rattle.classes.specs.declared.Class.TheVariants.{Building}
use Rattle.classes.specs.Examples.{computed as computed_class}
use Rattle.border.specs.declared.Border.{Border}
use Rattle.border.specs.declared.Text.{Text}
use Rattle.border.specs.Borders.{border_of, text_of}
use Rattle.border.specs.BorderAt.{border_at}
use Rattle.border.specs.TextAt.{text_at}

-- the definitions opened, so that they compute
unfoldable pub computed : Header → ℕ → Tables → ℕ → Result Border Unfound × Result Text Unfound
unfolding border_at border_of text_at text_of computed_class computed_sought
computed h count t k = (border_at h count t k, text_at h count t k)

-- a row of a kind with so many letters, of a size
abbrev row : ℕ → ℕ → ℕ → List ℤ
row kind size letters =
    pos kind ∷ pos 0 ∷ pos 0 ∷ pos size ∷ pos 0 ∷ pos 0 ∷ pos 0 ∷ pos 0 ∷ pos 0 ∷ pos letters ∷ pos 0 ∷ pos 0 ∷ at_first

pub said : ℕ → ℕ → ℕ → String → Text
unfolding computed
said kind size n s = text_of (tables_of (row kind size n) (text s) [] [])

-- (l)
pub surface : (said 2 18 2 "()" ≡ record { surface = false; centroid = false }) × (said 2 18 3 "(7)" ≡ record { surface = true; centroid = false })
unfolding said
surface = (refl, refl)

-- one row may be both; any other row is neither
pub both : (said 2 0 3 "(7)" ≡ record { surface = true; centroid = true }) × (said 1 0 3 "(7)" ≡ record { surface = false; centroid = false })
unfolding said
both = (refl, refl)

-- a raster's row and a survey book's are any other row: no border, and neither as a text, whatever their letters
abbrev raster_sheet : Tables
raster_sheet = tables_of (raster 0 0 4 ++ placed 1 0 4 (book 0 1 2)) (text "77") [] (ring 0 ++ ring 0)

pub other-rows : (said 6 0 3 "(7)" ≡ record { surface = false; centroid = false }) × (said 7 0 3 "(7)" ≡ record { surface = false; centroid = false })
    × (border_at (header 1) 2 raster_sheet 0 ≡ Err Missing) × (border_at (header 1) 2 raster_sheet 1 ≡ Err Missing)
    × (text_at (header 1) 2 raster_sheet 0 ≡ Ok (record { surface = false; centroid = false }))
unfolding said computed
other-rows = (refl, refl, refl, refl, refl)

-- ---- a sheet of a text `(7)`, a border `8+` whose numbers all differ, and a text `9` of size 0

abbrev sheet : Tables
sheet =
    tables_of (labelled 3 18 ++ placed 3 0 0 (pos 1 ∷ pos 0 ∷ pos 0 ∷ pos 19 ∷ pos 20 ∷ pos 21 ∷ pos 22 ∷ pos 23 ∷ pos 24 ∷ pos 2 ∷ pos 1 ∷ pos 8 ∷ []) ++ placed 5 1 8 (labelled 1 0))
    (text "(7)8+9") (4 ∷ []) (ring 0 ++ ring 0)

-- the class goes by the row's own letters
pub border-is : border_at (header 1) 3 sheet 1
    ≡ Ok (record { class = Building; size = pos 19; angle = pos 20; x = pos 21; y = pos 22; x2 = pos 23; y2 = pos 24; letters = 2; islands = 1; vertices = 8 })
unfolding computed
border-is = refl

-- a text is no border, nor is a row past the last; 15 comes before 19, 6 before 15
pub no-border : (border_at (header 1) 3 sheet 0 ≡ Err Missing) × (border_at (header 1) 3 sheet 3 ≡ Err Missing) × (border_at (header 1) 4 sheet 9 ≡ Err (Refused (Faulty 3)))
    × (border_at (header 4) 4 sheet 9 ≡ Err (Refused BadHeader))
unfolding computed
no-border = (refl, refl, refl, refl)

-- each text by its own letters and size; a border is neither
pub texts : (text_at (header 1) 3 sheet 0 ≡ Ok (record { surface = true; centroid = false })) × (text_at (header 1) 3 sheet 1 ≡ Ok (record { surface = false; centroid = false }))
    × (text_at (header 1) 3 sheet 2 ≡ Ok (record { surface = false; centroid = true }))
unfolding computed
texts = (refl, refl, refl)

pub no_text : (text_at (header 1) 3 sheet 3 ≡ Err Missing) × (text_at (header 1) 4 sheet 9 ≡ Err (Refused (Faulty 3))) × (text_at (header 4) 4 sheet 9 ≡ Err (Refused BadHeader))
unfolding computed
no_text = (refl, refl, refl)
