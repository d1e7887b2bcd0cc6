-- Borders of small sheets in the order of a SUP file, computed: document 02, T-01. Assumes nothing.
use Rattle.std.specs.Prelude.{ℕ, ◌/◌, ◌≡◌, refl, List, [], ◌∷◌, ◌++◌, map, ℤ, pos, negsuc, Option, Some, None}
use Rattle.std.specs.declared.cmp.Ordering.{Ordering}
use Rattle.std.specs.declared.cmp.Ordering.TheVariants.{Less, Equal, Greater}
use Prim.Native.String.{String}
use Rattle.laws.specs.Text.{text}
use Rattle.heading.specs.declared.Header.{Header}
use Rattle.kinds.specs.Kinds.{row_width}
use Rattle.sheet.specs.Tables.{Tables}
use Rattle.made.specs.Made.{tables_of}
use Rattle.made.specs.Examples.{header, at_first, placed, labelled}
use Rattle.row.specs.declared.Stand.{Stand}
use Rattle.row.specs.Examples.{computed as computed_sought}
use Rattle.border.specs.Examples.{computed as computed_border}
use Rattle.area.specs.Examples.{computed as computed_areas}
use Rattle.area.specs.Questions.{net_area_of}
use Rattle.order.specs.Compare.{by_whole, by_bytes}
use Rattle.order.specs.Sorting.{insert, sort_into, filter}
use Rattle.order.specs.SupBorders.{is_in_sup, sup_borders_from, sup_borders, is_long, first_long_from, first_long}
use Rattle.order.specs.SupOrder.{net_left, by_code_and_net, comes_at, goes_before, sup_in_order}
use Rattle.order.specs.Windows.{is_past, window_of}

-- the definitions opened, so that they compute
unfoldable pub computed : Header → ℕ → Tables → Option Stand → List Stand × List Stand × Option ℕ
unfolding sup_in_order window_of is_past filter sort_into insert goes_before comes_at by_code_and_net net_left net_area_of sup_borders_from is_in_sup first_long_from is_long computed_border computed_areas computed_sought
computed h count t since = (sup_in_order h count t, window_of h count t since, first_long h count t)

-- ---- codes and areas

codes : String → String → Ordering
unfolding computed
codes a b = by_bytes (text a) (text b)

-- a beginning before its continuation, the first bytes that differ decide, digits before capitals before small letters
by_bytes_lem : (codes "12" "12A" ≡ Less) × (codes "12A" "12" ≡ Greater) × (codes "9" "10" ≡ Greater) × (codes "Z" "a" ≡ Less) × (codes "7" "7" ≡ Equal)
unfolding codes
by_bytes_lem = (refl, refl, refl, refl, refl)

-- unsigned, though a listed code has no byte past 126
unsigned : by_bytes (255 ∷ []) (text "7") ≡ Greater
unfolding computed
unsigned = refl

-- areas below 0 rise too
by-area : (by_whole (negsuc 5) (negsuc 4) ≡ Less) × (by_whole (negsuc 0) (pos 0) ≡ Less) × (by_whole (pos 8) (pos 7) ≡ Greater) × (by_whole (negsuc 5) (negsuc 5) ≡ Equal)
unfolding computed
by-area = (refl, refl, refl, refl)

-- ---- a sheet: eight rows of five vertices or ten, and one text

-- a border of so many letters, islands and vertices
abbrev bordered : ℕ → ℕ → ℕ → List ℤ
bordered letters islands vertices =
    pos 1 ∷ pos 0 ∷ pos 0 ∷ pos 18 ∷ pos 0 ∷ pos 1 ∷ pos 1 ∷ pos 1 ∷ pos 1 ∷ pos letters ∷ pos islands ∷ pos vertices ∷ at_first

-- a square of a side
abbrev square : ℕ → List ℤ
square side = pos 0 ∷ pos 0 ∷ pos side ∷ pos 0 ∷ pos side ∷ pos side ∷ pos 0 ∷ pos side ∷ pos 0 ∷ pos 0 ∷ []

abbrev sheet : Tables
sheet =
    tables_of
    (bordered 3 0 5 ++ placed 3 0 5 (bordered 2 0 5) ++ placed 5 0 10 (labelled 2 18) ++ placed 7 0 10 (bordered 2 0 5) ++ placed 9 0 15 (bordered 2 0 5)
    ++ placed 11 0 20 (bordered 2 1 10) ++ placed 13 1 30 (bordered 1 0 5) ++ placed 14 1 35 (bordered 2 0 5) ++ placed 16 1 40 (bordered 11 0 5))
    (text "12A12zz127+1291212345678901") (5 ∷ [])
    (square 1 ++ square 3 ++ square 2 ++ square 1 ++ (square 1 ++ square 2) ++ square 1 ++ square 2 ++ square 1)

-- row numbers from 0
abbrev rows_of : List Stand → List ℕ
rows_of s = map (λ (d : Stand). d.row / row_width) s

-- `12A`, `12`, a text, `12`, the building `7+`, `12` with an island that is larger, `9`, `12`, a parcel of eleven letters (T-02)
listed-rows : rows_of (sup_borders (header 1) 9 sheet) ≡ 0 ∷ 1 ∷ 3 ∷ 5 ∷ 6 ∷ 7 ∷ 8 ∷ []
unfolding computed
listed-rows = refl

-- equal codes by net, the net below 0 first; row 3 and row 7 are equal in both
in_order : rows_of (sup_in_order (header 1) 9 sheet) ≡ 5 ∷ 3 ∷ 7 ∷ 1 ∷ 8 ∷ 0 ∷ 6 ∷ []
unfolding computed
in_order = refl

-- a window past row 3, and one from the first on
past_row : (rows_of (window_of (header 1) 9 sheet (Some (record { row = 45; letters = 7; islands = 0; points = 20 }))) ≡ 7 ∷ 1 ∷ 8 ∷ 0 ∷ 6 ∷ [])
    × (rows_of (window_of (header 1) 9 sheet None) ≡ 5 ∷ 3 ∷ 7 ∷ 1 ∷ 8 ∷ 0 ∷ 6 ∷ [])
unfolding computed
past_row = (refl, refl)

-- ---- kind 3, and sheets that list nothing

-- eleven letters three times, two of them equal, and the parcel `7`
abbrev union : Tables
union =
    tables_of (bordered 11 0 5 ++ placed 11 0 5 (bordered 1 0 5) ++ placed 12 0 10 (bordered 11 0 5) ++ placed 23 0 15 (bordered 11 0 5)) (text "B23456789017A2345678901B2345678901") []
    (square 2 ++ square 1 ++ square 3 ++ square 1)

-- OTHER in place of parcels; in kind 1 the same letters are parcels, in kind 2 those from `A` a water
in-union : (rows_of (sup_in_order (header 3) 4 union) ≡ 2 ∷ 3 ∷ 0 ∷ []) × (rows_of (sup_in_order (header 1) 4 union) ≡ 1 ∷ 2 ∷ 3 ∷ 0 ∷ [])
    × (rows_of (sup_in_order (header 2) 4 union) ≡ 1 ∷ 3 ∷ 0 ∷ [])
unfolding computed
in-union = (refl, refl, refl)

-- no rows; a text alone; the sheet's own border
nothing : (sup_in_order (header 1) 0 sheet ≡ []) × (sup_in_order (header 1) 1 (tables_of (labelled 1 18) (text "7") [] []) ≡ [])
    × (sup_in_order (header 1) 1 (tables_of (bordered 11 0 5) (text "Z999_000100") [] (square 1)) ≡ [])
unfolding computed
nothing = (refl, refl, refl)

-- ---- codes that are too long

-- a text and a building of 12 letters, a parcel of 11, then parcels of 12 and of 13
abbrev long-codes : Tables
long-codes =
    tables_of (labelled 12 18 ++ placed 12 0 0 (bordered 12 0 5) ++ placed 24 0 5 (bordered 11 0 5) ++ placed 35 0 10 (bordered 12 0 5) ++ placed 47 0 15 (bordered 13 0 5))
    (text "12345678901212345678901+123456789011234567890121234567890123") [] (square 1 ++ square 1 ++ square 1 ++ square 1)

-- 12 letters are one too many; the first such row alone counts, and a union sheet has none
too_long : (first_long (header 1) 5 long-codes ≡ Some 3) × (first_long (header 1) 3 long-codes ≡ None) × (first_long (header 3) 5 long-codes ≡ None)
unfolding computed
too_long = (refl, refl, refl)
