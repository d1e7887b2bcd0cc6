-- Tallies of small sheets, and tallies near the limit, computed: document 01, "Areas"; document 02, T-07. Assumes nothing.
use Rattle.std.specs.Prelude.{ℕ, ◌≡◌, refl, List, [], ◌∷◌, ◌++◌, true, false, replicate, ℤ, pos, negsuc, Ok, Err}
use Rattle.laws.specs.Text.{text}
use Rattle.heading.specs.declared.Header.{Header}
use Rattle.sheet.specs.Tables.{Tables}
use Rattle.made.specs.declared.Flaw.TheVariants as Flaw
use Rattle.made.specs.Made.{tables_of}
use Rattle.made.specs.Examples.{header, at_first, placed, label, border}
use Rattle.row.specs.Examples.{computed as computed_sought}
use Rattle.area.specs.Examples.{computed as computed_areas}
use Rattle.classes.specs.declared.Class.TheVariants.{Parcel}
use Rattle.border.specs.declared.Border.{Border}
use Rattle.border.specs.Examples.{computed as computed_border}
use Rattle.tally.specs.declared.Tally.{Tally}
use Rattle.tally.specs.declared.Untallied.TheVariants.{Sheet, Missing, Full, Wide}
use Rattle.tally.specs.declared.Taken.{Taken}
use Rattle.tally.specs.Tally.{Added, limit, is_figure, is_tally, empty_tally, plus, figures_of, refused_at, with_figures, add_of, is_fit, are_fit, tally_on}
use Rattle.tally.specs.Take.{taken_with, border_taken, row_taken, taken_of, tally_rows, tally_of, refused_of}

-- the definitions opened, so that they compute
unfoldable pub computed : Tally → Header → ℕ → Tables → ℕ → Taken × Taken
unfolding taken_of tally_of tally_rows row_taken border_taken add_of with_figures figures_of plus is_tally is_figure computed_border computed_areas computed_sought
computed a h count t k = (taken_of a h count t k, tally_of h count t)

-- ---- one border into a tally

-- a tally with these figures of parcels, and no others
abbrev parcels : ℤ → ℤ → ℤ → ℤ → Tally
parcels borders outer islands inner = tally_on (replicate 20 (pos 0) ++ borders ∷ outer ∷ islands ∷ inner ∷ [])

-- a parcel of so many islands
abbrev parcel : ℕ → Border
parcel n = record { class = Parcel; size = pos 0; angle = pos 0; x = pos 0; y = pos 0; x2 = pos 0; y2 = pos 0; letters = 1; islands = n; vertices = 8 }

abbrev added : Tally → Added
added a = record { fits = true; tally = a }

-- each figure grows in its own place
grows : add_of (parcels (pos 1) (pos 20) (pos 300) (pos 4000)) (parcel 7) (pos 5) (pos 6) ≡ added (parcels (pos 2) (pos 25) (pos 307) (pos 4006))
unfolding computed
grows = refl

-- the count of borders by its own limit: not by the outer total, and not the outer total by the count
count-limit : (add_of (parcels (pos 7) (pos limit) (pos 0) (pos 0)) (parcel 0) (pos 0) (pos 0) ≡ added (parcels (pos 8) (pos limit) (pos 0) (pos 0)))
    × (add_of (parcels (pos 8999999999999999999) (pos 0) (pos 0) (pos 0)) (parcel 0) (pos 5) (pos 0) ≡ added (parcels (pos limit) (pos 5) (pos 0) (pos 0)))
    × (add_of (parcels (pos limit) (pos 0) (pos 0) (pos 0)) (parcel 0) (pos 5) (pos 0) ≡ refused_at (parcels (pos limit) (pos 0) (pos 0) (pos 0)))
unfolding computed
count-limit = (refl, refl, refl)

-- the outer total: up to the limit, and one past it
outer-limit : (add_of (parcels (pos 0) (pos 8999999999999999995) (pos 0) (pos 0)) (parcel 0) (pos 5) (pos 0) ≡ added (parcels (pos 1) (pos limit) (pos 0) (pos 0)))
    × (add_of (parcels (pos 0) (pos 8999999999999999995) (pos 0) (pos 0)) (parcel 0) (pos 6) (pos 0) ≡ refused_at (parcels (pos 0) (pos 8999999999999999995) (pos 0) (pos 0)))
unfolding computed
outer-limit = (refl, refl)

-- the islands' count
islands-limit : (add_of (parcels (pos 0) (pos 0) (pos 8999999999999999998) (pos 0)) (parcel 2) (pos 5) (pos 0) ≡ added (parcels (pos 1) (pos 5) (pos limit) (pos 0)))
    × (add_of (parcels (pos 0) (pos 0) (pos 8999999999999999999) (pos 0)) (parcel 2) (pos 5) (pos 0) ≡ refused_at (parcels (pos 0) (pos 0) (pos 8999999999999999999) (pos 0)))
unfolding computed
islands-limit = (refl, refl)

-- the islands' total, with what the islands add and not with the outer ring's area
inner-limit : (add_of (parcels (pos 0) (pos 0) (pos 0) (pos 8999999999999999993)) (parcel 1) (pos 9) (pos 7) ≡ added (parcels (pos 1) (pos 9) (pos 1) (pos limit)))
    × (add_of (parcels (pos 0) (pos 0) (pos 0) (pos 8999999999999999993)) (parcel 1) (pos 7) (pos 8) ≡ refused_at (parcels (pos 0) (pos 0) (pos 0) (pos 8999999999999999993)))
unfolding computed
inner-limit = (refl, refl)

-- a class's four figures in place are judged the same way, each with what is added to it
in_place : (are_fit (pos 7) (pos limit) (pos 0) (pos 0) (pos 0) 0 (pos 0) ≡ true) × (are_fit (pos limit) (pos 0) (pos 0) (pos 0) (pos 5) 0 (pos 0) ≡ false)
    × (are_fit (pos 0) (pos 8999999999999999995) (pos 0) (pos 0) (pos 6) 0 (pos 0) ≡ false) × (are_fit (pos 0) (pos 0) (pos limit) (pos 0) (pos 5) 1 (pos 0) ≡ false)
    × (are_fit (pos 0) (pos 0) (pos 0) (pos 8999999999999999993) (pos 9) 1 (pos 7) ≡ true) × (are_fit (pos 0) (pos 0) (pos 0) (pos 8999999999999999993) (pos 7) 1 (pos 8) ≡ false)
unfolding are_fit is_fit computed
in_place = (refl, refl, refl, refl, refl, refl)

-- ---- a row of a sheet

-- triangles of double the area side * side; a text, and two parcels of one island each, the first's outer ring and the second's of these sides
abbrev ring : ℕ → List ℤ
ring side = pos 0 ∷ pos 0 ∷ pos side ∷ pos 0 ∷ pos side ∷ pos side ∷ pos 0 ∷ pos 0 ∷ []

abbrev sheet : ℕ → ℕ → Tables
sheet first second = tables_of (label ++ placed 1 0 0 (border 0 1 8) ++ placed 2 1 8 (border 0 1 8)) (text "777") (4 ∷ 4 ∷ []) (ring first ++ ring 2 ++ ring second ++ ring 3)

taken : Tally → ℕ → ℕ → ℕ → Taken
unfolding computed
taken a first second k = taken_of a (header 1) 3 (sheet first second) k

-- a running tally takes one border: row 1, then row 2
takes : (taken empty_tally 10 7 1 ≡ taken_with (parcels (pos 1) (pos 100) (pos 1) (pos 4)) (Ok tt))
    × (taken (parcels (pos 1) (pos 100) (pos 1) (pos 4)) 10 7 2 ≡ taken_with (parcels (pos 2) (pos 149) (pos 2) (pos 13)) (Ok tt))
unfolding taken
takes = (refl, refl)

-- a refused border leaves the figures: 18 by the outer total, 18 by the islands' total, 17
leaves : (taken (parcels (pos 5) (pos 8999999999999999901) (pos 3) (pos 2)) 10 7 1 ≡ taken_with (parcels (pos 5) (pos 8999999999999999901) (pos 3) (pos 2)) (Err (Full 1)))
    × (taken (parcels (pos 5) (pos 6) (pos 3) (pos 8999999999999999997)) 10 7 1 ≡ taken_with (parcels (pos 5) (pos 6) (pos 3) (pos 8999999999999999997)) (Err (Full 1)))
    × (taken (parcels (pos 5) (pos 6) (pos 3) (pos 2)) 10 20000001 2 ≡ taken_with (parcels (pos 5) (pos 6) (pos 3) (pos 2)) (Err (Wide 2)))
unfolding taken
leaves = (refl, refl, refl)

-- 17 before 18; but a tally that is none itself, by a negative figure or by one past the limit, is refused 18 before its border's rings are judged
wide-first : (taken (parcels (pos limit) (pos limit) (pos 3) (pos 2)) 20000001 7 1 ≡ taken_with (parcels (pos limit) (pos limit) (pos 3) (pos 2)) (Err (Wide 1)))
    × (taken (tally_on (negsuc 0 ∷ replicate 23 (pos 0))) 20000001 7 1 ≡ taken_with (tally_on (negsuc 0 ∷ replicate 23 (pos 0))) (Err (Full 1)))
    × (taken (parcels (pos 0) (pos 0) (pos 0) (pos 9000000000000000001)) 20000001 7 1 ≡ taken_with (parcels (pos 0) (pos 0) (pos 0) (pos 9000000000000000001)) (Err (Full 1)))
unfolding taken
wide-first = (refl, refl, refl)

-- 19 before the tally is judged: a text, a row past the last; 15 and 6 before that
missing : (taken (tally_on (negsuc 0 ∷ replicate 23 (pos 0))) 10 7 0 ≡ taken_with (tally_on (negsuc 0 ∷ replicate 23 (pos 0))) (Err Missing)) × (taken empty_tally 10 7 3 ≡ taken_with empty_tally (Err Missing))
    × (taken_of empty_tally (header 1) 4 (sheet 10 7) 9 ≡ taken_with empty_tally (Err (Sheet (Flaw.Faulty 3)))) × (taken_of empty_tally (header 4) 4 (sheet 10 7) 9 ≡ taken_with empty_tally (Err (Sheet Flaw.BadHeader)))
unfolding taken
missing = (refl, refl, refl, refl)

-- ---- a whole sheet

-- a text counts nothing, nor does what stands past `count`
whole : (tally_of (header 1) 3 (sheet 10 7) ≡ taken_with (parcels (pos 2) (pos 149) (pos 2) (pos 13)) (Ok tt))
    × (tally_of (header 1) 1 (sheet 10 7) ≡ taken_with empty_tally (Ok tt)) × (tally_of (header 1) 0 (sheet 10 7) ≡ taken_with empty_tally (Ok tt))
unfolding computed
whole = (refl, refl, refl)

-- a border of so many letters, without islands
abbrev lettered : ℕ → List ℤ
lettered letters = pos 1 ∷ pos 0 ∷ pos 0 ∷ pos 18 ∷ pos 0 ∷ pos 1 ∷ pos 1 ∷ pos 1 ∷ pos 1 ∷ pos letters ∷ pos 0 ∷ pos 4 ∷ at_first

-- each border in the place of its class: a CONFINE has the first four figures, a building the fifth four
classed : tally_of (header 1) 2 (tables_of (lettered 11 ++ placed 11 0 4 (lettered 2)) (text "Z999_0001007+") [] (ring 10 ++ ring 7))
    ≡ taken_with (tally_on (pos 1 ∷ pos 100 ∷ pos 0 ∷ pos 0 ∷ replicate 12 (pos 0) ++ pos 1 ∷ pos 49 ∷ replicate 6 (pos 0))) (Ok tt)
unfolding computed
classed = refl

-- T-02: `12345678901` and `1234567890+` are a parcel and a building in kind 1, both OTHER in kind 3
abbrev eleven : Tables
eleven = tables_of (lettered 11 ++ placed 11 0 4 (lettered 11)) (text "123456789011234567890+") [] (ring 10 ++ ring 7)

eleven-letters : (tally_of (header 1) 2 eleven ≡ taken_with (tally_on (replicate 16 (pos 0) ++ pos 1 ∷ pos 49 ∷ pos 0 ∷ pos 0 ∷ pos 1 ∷ pos 100 ∷ pos 0 ∷ pos 0 ∷ [])) (Ok tt))
    × (tally_of (record { kind = 3; name = text "Z999_0001QU"; scale = pos 1000 }) 2 eleven ≡ taken_with (tally_on (replicate 4 (pos 0) ++ pos 2 ∷ pos 149 ∷ replicate 18 (pos 0))) (Ok tt))
unfolding computed
eleven-letters = (refl, refl)

-- refused, all is 0: 17 with its row, 15 with its row, 6
whole-refused : (tally_of (header 1) 3 (sheet 10 20000001) ≡ taken_with empty_tally (Err (Wide 2))) × (tally_of (header 1) 4 (sheet 20000001 7) ≡ taken_with empty_tally (Err (Sheet (Flaw.Faulty 3))))
    × (tally_of (header 4) 3 (sheet 10 7) ≡ taken_with empty_tally (Err (Sheet Flaw.BadHeader)))
unfolding computed
whole-refused = (refl, refl, refl)

-- a false start is 15 at its row (T-07), before a 17 in a row before it
false-start : tally_of (header 1) 2 (tables_of (lettered 1 ++ placed 1 0 3 (lettered 1)) (text "77") [] (ring 20000001 ++ ring 7)) ≡ taken_with empty_tally (Err (Sheet (Flaw.Faulty 1)))
unfolding computed
false-start = refl

-- rows in order, from a tally near the limit: an 18 at row 1 comes before a 17 at row 2, and a 17 at row 1 before an 18 there
in_order : (tally_rows (header 1) 3 0 (sheet 10 20000001) (parcels (pos 5) (pos limit) (pos 3) (pos 2)) ≡ taken_with empty_tally (Err (Full 1)))
    × (tally_rows (header 1) 3 0 (sheet 20000001 7) (parcels (pos 5) (pos limit) (pos 3) (pos 2)) ≡ taken_with empty_tally (Err (Wide 1)))
    × (tally_rows (header 1) 3 0 (sheet 10 7) (parcels (pos 5) (pos 8999999999999999900) (pos 3) (pos 2)) ≡ taken_with empty_tally (Err (Full 2)))
unfolding computed
in_order = (refl, refl, refl)

-- the paper's numbers: 17 and 18 name the row, 19 none
told : (refused_of (Err (Wide 2)) ≡ record { number = 17; row = 2 }) × (refused_of (Err (Full 2)) ≡ record { number = 18; row = 2 }) × (refused_of (Err Missing) ≡ record { number = 19; row = 0 })
    × (refused_of (Err (Sheet (Flaw.Faulty 3))) ≡ record { number = 15; row = 3 })
told = (refl, refl, refl, refl)
