-- The ring check of a sheet's rings, computed: document 01, "Ring check" and its (i). Assumes nothing.
use Rattle.std.specs.Prelude.{ℕ, ◌≡◌, refl, List, [], ◌∷◌, ◌++◌, ℤ, pos, Option, None, Result, Ok, Err}
use Rattle.laws.specs.Text.{text}
use Rattle.heading.specs.declared.Header.{Header}
use Rattle.sheet.specs.Tables.{Tables}
use Rattle.made.specs.declared.Flaw.TheVariants.{BadHeader, Faulty}
use Rattle.made.specs.Made.{tables_of, ring_sizes}
use Rattle.made.specs.Examples.{header, placed, label, border}
use Rattle.row.specs.Examples.{computed as computed_sought}
use Rattle.area.specs.BorderRings.{ring_of}
use Rattle.area.specs.Questions.{ring_of_row, ring_at}
use Rattle.crossing.specs.Examples.{computed as computed_verdict}
use Rattle.crossing.specs.declared.FaultyPair.{FaultyPair}
use Rattle.crossing.specs.Search.{fault_at}
use Rattle.area.specs.declared.AreaRefusal.{AreaRefusal}
use Rattle.area.specs.declared.AreaRefusal.TheVariants.{Wide, Missing, Refused}
use Rattle.ring.specs.RingCheck.{ring_check_at, number_of, row_of}

-- `ring_check_at` with every definition opened, so that it computes
unfoldable pub computed : Header → ℕ → Tables → ℕ → ℕ → Result (Option FaultyPair) AreaRefusal
unfolding ring_check_at ring_at ring_of_row ring_of ring_sizes computed_sought computed_verdict
computed h count t row ring = ring_check_at h count t row ring

-- (i), and a triangle
abbrev bowtie : List ℤ
bowtie = pos 0 ∷ pos 0 ∷ pos 10 ∷ pos 10 ∷ pos 10 ∷ pos 0 ∷ pos 0 ∷ pos 10 ∷ pos 0 ∷ pos 0 ∷ []

abbrev triangle : ℕ → List ℤ
triangle side = pos 0 ∷ pos 0 ∷ pos side ∷ pos 0 ∷ pos 0 ∷ pos 9 ∷ pos 0 ∷ pos 0 ∷ []

-- a text; a border whose outer ring is (i), its island a triangle of that side; a border of a triangle
abbrev sheet : ℕ → Tables
sheet side = tables_of (label ++ placed 1 0 0 (border 0 1 9) ++ placed 2 1 9 (border 0 0 4)) (text "777") (4 ∷ []) (bowtie ++ triangle side ++ triangle 5)

checked : ℕ → ℕ → ℕ → Result (Option FaultyPair) AreaRefusal
unfolding computed
checked side row ring = ring_check_at (header 1) 3 (sheet side) row ring

-- ring 0 is the outer one, ring 1 the island; the next row's ring stands behind them
rings : (checked 5 1 0 ≡ Ok (fault_at 0 2)) × (checked 5 1 1 ≡ Ok None) × (checked 5 2 0 ≡ Ok None)
unfolding checked
rings = (refl, refl, refl)

-- 17 is of the ring that is asked for
wide : (checked 20000001 1 1 ≡ Err Wide) × (checked 20000000 1 1 ≡ Ok None) × (checked 20000001 1 0 ≡ Ok (fault_at 0 2)) × (number_of (Err Wide) ≡ 17) × (row_of (Err Wide) ≡ 0)
unfolding checked
wide = (refl, refl, refl, refl, refl)

-- 19: a text, a ring past the islands, a row past the last
missing : (checked 5 0 0 ≡ Err Missing) × (checked 5 1 2 ≡ Err Missing) × (checked 5 2 1 ≡ Err Missing) × (checked 5 3 0 ≡ Err Missing) × (number_of (Err Missing) ≡ 19)
unfolding checked
missing = (refl, refl, refl, refl, refl)

-- 15 comes before 19 and 17, 6 before all
refused : (ring_check_at (header 1) 4 (sheet 20000001) 1 1 ≡ Err (Refused (Faulty 3))) × (ring_check_at (header 4) 4 (sheet 5) 9 0 ≡ Err (Refused BadHeader))
unfolding computed
refused = (refl, refl)
