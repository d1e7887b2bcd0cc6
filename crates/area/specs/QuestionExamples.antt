-- Questions about a sheet of a text and of a border with an island, by computation (document 01, "Areas" and "Refusal numbers"). Assumes nothing.
use Rattle.std.specs.Prelude.{ℕ, ◌≡◌, refl, List, [], ◌∷◌, ◌++◌, ℤ, pos, negsuc, Result, Ok, Err}
use Rattle.laws.specs.Text.{text}
use Rattle.heading.specs.declared.Header.{Header}
use Rattle.sheet.specs.Tables.{Tables}
use Rattle.made.specs.Made.{tables_of, ring_sizes}
use Rattle.made.specs.Examples.{at_first, placed}
use Rattle.row.specs.Examples.{computed as computed_sought}
use Rattle.area.specs.declared.AreaRefusal.{AreaRefusal}
use Rattle.area.specs.BorderRings.{ring_of}
use Rattle.area.specs.Examples.{computed as computed_areas}
use Rattle.area.specs.Questions.{ring_of_row, ring_at, net_area_of, ring_area_at, net_area_at, number_of, row_of}

abbrev header : Header
header = record { kind = 1; name = text "Z999_000100"; scale = pos 1000000 }

abbrev label : List ℤ
label = pos 2 ∷ pos 1 ∷ pos 0 ∷ pos 18 ∷ pos 0 ∷ pos 3000 ∷ negsuc 4 ∷ pos 0 ∷ pos 0 ∷ pos 1 ∷ pos 0 ∷ pos 0 ∷ at_first

abbrev border : List ℤ
border = pos 1 ∷ pos 0 ∷ pos 0 ∷ pos 18 ∷ pos 0 ∷ pos 1 ∷ pos 1 ∷ pos 1 ∷ pos 1 ∷ pos 1 ∷ pos 1 ∷ pos 8 ∷ at_first

-- a triangle of double the area side * side
abbrev ring : ℕ → List ℤ
ring side = pos 0 ∷ pos 0 ∷ pos side ∷ pos 0 ∷ pos side ∷ pos side ∷ pos 0 ∷ pos 0 ∷ []

-- the island's side
abbrev sheet : ℕ → Tables
sheet side = tables_of (label ++ placed 1 0 0 border) (text "77") (4 ∷ []) (ring 10 ++ ring side)

-- the definitions opened, so that they compute
unfoldable pub computed : Header → ℕ → Tables → ℕ → ℕ → Result ℤ AreaRefusal × Result ℤ AreaRefusal
unfolding ring_area_at ring_at ring_of_row ring_of ring_sizes net_area_at net_area_of computed_areas computed_sought
computed h count t row k = (ring_area_at h count t row k, net_area_at h count t row)

asked : ℕ → ℕ → ℕ → Result ℤ AreaRefusal
unfolding computed
asked side row k = ring_area_at header 2 (sheet side) row k

net : ℕ → ℕ → Result ℤ AreaRefusal
unfolding computed
net side row = net_area_at header 2 (sheet side) row

outer-ring : asked 2 1 0 ≡ Ok (pos 100)
unfolding asked
outer-ring = refl

island : asked 2 1 1 ≡ Ok (pos 4)
unfolding asked
island = refl

both-rings : net 2 1 ≡ Ok (pos 96)
unfolding net
both-rings = refl

net-below : net 20 1 ≡ Ok (negsuc 299)
unfolding net
net-below = refl

-- 19: a ring past the islands, a text, a row past the sheet
no-ring : number_of (asked 2 1 2) ≡ 19
unfolding asked
no-ring = refl

no-border : number_of (net 2 0) ≡ 19
unfolding net
no-border = refl

no_row : number_of (net 2 2) ≡ 19
unfolding net
no_row = refl

-- 17 is of the ring that is asked for; of the net it is of any ring, and no row is returned
wide-apart : asked 20000001 1 0 ≡ Ok (pos 100)
unfolding asked
wide-apart = refl

wide-island : number_of (asked 20000001 1 1) ≡ 17
unfolding asked
wide-island = refl

wide-net : (number_of (net 20000001 1) ≡ 17) × (row_of (net 20000001 1) ≡ 0)
unfolding net
wide-net = (refl, refl)

-- 15 comes before 19 and names the row; 6 comes first
faulty : number_of (ring_area_at header 2 (tables_of (label ++ placed 1 0 0 label) (text "7") [] []) 5 0) ≡ 15
unfolding computed
faulty = refl

bad-header : number_of (net_area_at (record { kind = 4; name = []; scale = pos 1 }) 2 (tables_of [] [] [] []) 5) ≡ 6
unfolding computed
bad-header = refl

-- ---- two borders: the second row's rings stand behind the first row's

abbrev pair : Tables
pair = tables_of (border ++ placed 1 1 8 border) (text "77") (4 ∷ 4 ∷ []) (ring 10 ++ ring 2 ++ ring 7 ++ ring 3)

second-row : (ring_area_at header 2 pair 1 0 ≡ Ok (pos 49)) × (ring_area_at header 2 pair 1 1 ≡ Ok (pos 9)) × (ring_area_at header 2 pair 0 1 ≡ Ok (pos 4))
    × (net_area_at header 2 pair 1 ≡ Ok (pos 40)) × (net_area_at header 2 pair 0 ≡ Ok (pos 96))
unfolding computed
second-row = (refl, refl, refl, refl, refl)
