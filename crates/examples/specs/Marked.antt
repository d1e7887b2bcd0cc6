-- The marked examples (a) to (l) of document 01, proved as one table: what is asked, and the answer. Assumes nothing.
use Rattle.std.specs.Prelude.{ℕ, ◌≡◌, refl, List, [], ◌∷◌, ◌++◌, map, Bool, true, false, Option, Some, None, Result, Ok, Err, ℤ, pos, neg_ℤ}
use Prim.Native.String.{String}
use Rattle.laws.specs.Lists.{run, all, same}
use Rattle.laws.specs.Text.{text}
use Rattle.record.specs.declared.Mode.{Mode}
use Rattle.record.specs.declared.Mode.TheVariants.{Loose, Exact}
use Rattle.record.specs.Refusals.{malformed, bad_count, too_wide, no_such, number_of}
use Rattle.number.specs.Words.{unled}
use Rattle.number.specs.Number.{value, parted, ended, lean, integer_is, integer_at, integer_of, sign_of, signs, signed, thousandths, is_token, is_neat, real_is, real_at, real_signed, real_of}
use Rattle.machine.specs.Machine.{Step, vertices_of, island_of}
use Rattle.plane.specs.declared.NoArea.{NoArea}
use Rattle.plane.specs.declared.NoArea.TheVariants.{Wide, Missing}
use Rattle.plane.specs.Rings.{held, near, near_first, all_near, narrow}
use Rattle.plane.specs.Areas.{east, north, edge-term, signed-sum, area_of}
use Rattle.crossing.specs.declared.FaultyPair.{FaultyPair}
use Rattle.crossing.specs.Edges.{edges-meet, boxes-overlap, beside-line, spans-overlap, one_side, neighbours-overlap, equal-ends, side, dot}
use Rattle.crossing.specs.Search.{verdict_of, searched, first_edge, second-edge, least, faulty-pair}
use Rattle.made.specs.Made.{sum}
use Rattle.area.specs.declared.Areas.{Areas}
use Rattle.area.specs.BorderRings.{total_from, areas_of, net_of}
use Rattle.classes.specs.declared.Class.{Class}
use Rattle.classes.specs.declared.Class.TheVariants.{Building, Road, Parcel}
use Rattle.classes.specs.Classes.{begins_with, ends_in, begins_in_kind2, is_road, is_water, is_other, class_of, is_surface}

-- what is asked
data Question : Type 0 where
  real : Mode → String → Question
  integer : Mode → String → Question
  -- a border of so many vertices with one island; that island's vertices
  vertices : ℕ → Question
  island : ℕ → ℕ → Question
  -- a ring of five vertices: its doubled area, its first faulty pair
  ring : List ℤ → Question
  pair : List ℤ → Question
  -- an outer ring and an island, of five vertices each: outer area, island's area, net
  border : List ℤ → Question
  -- letters in a sheet of a kind; letters of a text
  class : ℕ → String → Question
  surface : String → Question

data Answer : Type 0 where
  refused : ℕ → Answer
  passes : Answer
  numbers : List ℤ → Answer
  is_class : Class → Answer
  is_right : Bool → Answer

-- ---- the library's answers in these terms

abbrev of_real : Option ℤ → Answer
of_real (Some z) = numbers (z ∷ [])
of_real None = refused malformed

abbrev of_integer : Option ℕ → Answer
of_integer (Some n) = numbers (pos n ∷ [])
of_integer None = refused malformed

abbrev of_step : Step → Answer
of_step (Ok st) = passes
of_step (Err refusal) = refused (number_of refusal)

abbrev of_area : Result ℤ NoArea → List ℤ
of_area (Ok d) = d ∷ []
of_area (Err e) = []

abbrev of_verdict : Result (Option FaultyPair) NoArea → Answer
of_verdict (Ok None) = passes
of_verdict (Ok (Some p)) = numbers (pos p.first ∷ pos p.second ∷ [])
of_verdict (Err Wide) = refused too_wide
of_verdict (Err Missing) = refused no_such

abbrev of_areas : Result Areas NoArea → List ℤ
of_areas (Ok a) = a.outer ∷ a.inner ∷ []
of_areas (Err e) = []

answer : Question → Answer
unfolding real_of real_signed real_at real_is is_neat is_token thousandths signed signs sign_of lean ended parted value unled run all integer_of integer_at integer_is vertices_of island_of area_of narrow held near near_first all_near signed-sum edge-term east north verdict_of searched first_edge second-edge least faulty-pair edges-meet boxes-overlap beside-line spans-overlap one_side neighbours-overlap equal-ends side dot areas_of total_from sum class_of is_other is_road is_water begins_in_kind2 begins_with ends_in same is_surface
answer (real mode s) = of_real (real_of mode (text s))
answer (integer mode s) = of_integer (integer_of mode (text s))
answer (vertices n) = of_step (vertices_of 1 1 n)
answer (island spare n) = of_step (island_of 1 spare 1 n)
answer (ring ps) = numbers (of_area (area_of ps 0 5))
answer (pair ps) = of_verdict (verdict_of ps 0 5)
answer (border ps) = numbers (of_areas (areas_of 10 (5 ∷ []) ps) ++ of_area (net_of (areas_of 10 (5 ∷ []) ps)))
answer (class kind s) = is_class (class_of kind (text "Z999_000100") (text s))
answer (surface s) = is_right (is_surface (text s))

-- ---- the table

bowtie : List ℤ
bowtie = pos 0 ∷ pos 0 ∷ pos 10 ∷ pos 10 ∷ pos 10 ∷ pos 0 ∷ pos 0 ∷ pos 10 ∷ pos 0 ∷ pos 0 ∷ []

-- a square from its lowest corner
abbrev square : ℕ → ℕ → List ℤ
square low high = pos low ∷ pos low ∷ pos high ∷ pos low ∷ pos high ∷ pos high ∷ pos low ∷ pos high ∷ pos low ∷ pos low ∷ []

cases : List (Question × Answer)
unfolding bowtie
cases =
    -- (a) to (d), in loose and in exact mode
    (real Exact "      -0.005", numbers (neg_ℤ (pos 5) ∷ [])) ∷
    (real Loose "      -0.005", numbers (neg_ℤ (pos 5) ∷ [])) ∷
    (real Exact "-9999999.999", numbers (neg_ℤ (pos 9999999999) ∷ [])) ∷
    (real Loose "-9999999.999", numbers (neg_ℤ (pos 9999999999) ∷ [])) ∷
    (real Exact "99999999.999", numbers (pos 99999999999 ∷ [])) ∷
    (real Loose "99999999.999", numbers (pos 99999999999 ∷ [])) ∷
    (real Exact "-10000000.000", refused malformed) ∷
    (real Loose "-10000000.000", refused malformed) ∷
    -- (e)
    (real Loose "      -0.000", numbers (pos 0 ∷ [])) ∷
    (real Exact "      -0.000", refused malformed) ∷
    -- (f), (g)
    (integer Exact "   0", numbers (pos 0 ∷ [])) ∷
    (integer Loose "   0", numbers (pos 0 ∷ [])) ∷
    (integer Loose " 018", numbers (pos 18 ∷ [])) ∷
    (integer Exact " 018", refused malformed) ∷
    -- (h)
    (vertices 8, passes) ∷
    (island 8 4, passes) ∷
    (island 8 5, refused bad_count) ∷
    -- (i), (j)
    (ring bowtie, numbers (pos 0 ∷ [])) ∷
    (pair bowtie, numbers (pos 0 ∷ pos 2 ∷ [])) ∷
    (border (square 0 10 ++ square 4 6), numbers (pos 200 ∷ pos 8 ∷ pos 192 ∷ [])) ∷
    -- (k), (l)
    (class 1 "7+", is_class Building) ∷
    (class 2 "S7", is_class Road) ∷
    (class 1 "S7", is_class Parcel) ∷
    (surface "()", is_right false) ∷
    (surface "(7)", is_right true) ∷
    []

-- every question has its answer
marked : map (λ (c : Question × Answer). answer c.0) cases ≡ map (λ (c : Question × Answer). c.1) cases
unfolding answer cases
marked = refl
