-- A border's rings and their areas (document 01, "Areas"). Assumes nothing: these are definitions.
-- The outer ring comes first and has the vertices that the islands leave; the islands follow in the order of their counts.
use Rattle.std.specs.Prelude.{ℕ, ◌+◌, ◌-◌, List, [], ◌∷◌, cond, ◌&&◌, length, get_or, take, leb, ltb, ℤ, pos, ◌+ℤ◌, ◌-ℤ◌, Option, Some, None, Result, Ok, Err}
use Rattle.record.specs.Refusals.{too_wide, no_such}
use Rattle.plane.specs.declared.NoArea.{NoArea}
use Rattle.plane.specs.declared.NoArea.TheVariants.{Wide, Missing}
use Rattle.plane.specs.Rings.{most}
use Rattle.plane.specs.Areas.{area_of}
use Rattle.made.specs.Made.{sum, ring_sizes}
use Rattle.area.specs.declared.Areas.{Areas}
use Rattle.area.specs.declared.RingPlace.{RingPlace}

-- two areas together; the first refusal is the answer
abbrev pub areas_together : Result ℤ NoArea → Result ℤ NoArea → Result ℤ NoArea
areas_together (Ok a) (Ok b) = Ok (a +ℤ b)
areas_together (Ok a) (Err e) = Err e
areas_together (Err e) b = Err e

-- rings of these sizes, one behind the other from vertex `from` on
unfoldable pub total_from : List ℤ → ℕ → List ℕ → Result ℤ NoArea
total_from ps from [] = Ok (pos 0)
total_from ps from (n ∷ ns) = areas_together (area_of ps from n) (total_from ps (from + n) ns)

-- outer ring and islands; the first refusal is the answer
abbrev pub both_areas : ℤ → ℤ → Areas
both_areas outer inner = record { outer = outer; inner = inner }

abbrev pub of_rings : Result ℤ NoArea → Result ℤ NoArea → Result Areas NoArea
of_rings (Ok outer) (Ok inner) = Ok (both_areas outer inner)
of_rings (Ok outer) (Err e) = Err e
of_rings (Err e) b = Err e

-- a border of v vertices, its first the first of the points. Where the islands take all of them the outer ring is missing
unfoldable pub areas_of : ℕ → List ℕ → List ℤ → Result Areas NoArea
areas_of v islands ps = cond (leb v most) (of_rings (area_of ps 0 (v - sum islands)) (total_from ps (v - sum islands) islands)) (Err Missing)

-- "Net is outer less islands and may be negative"
abbrev pub net_of : Result Areas NoArea → Result ℤ NoArea
net_of (Ok a) = Ok (a.outer -ℤ a.inner)
net_of (Err e) = Err e

-- ring 0 is the outer one, ring i island i: where it begins, and its vertices. There is none past the islands
abbrev pub ring_place : ℕ → ℕ → RingPlace
ring_place from n = record { from = from; count = n }

unfoldable pub ring_of : ℕ → List ℕ → ℕ → Option RingPlace
ring_of v islands ring =
    cond (ltb (sum islands) v && leb ring (length islands))
    (Some (ring_place (sum (take ring (ring_sizes v islands))) (get_or (ring_sizes v islands) ring 0)))
    None

-- ---- the paper's numbers

abbrev pub areas_number : Result Areas NoArea → ℕ
areas_number (Ok a) = 0
areas_number (Err Wide) = too_wide
areas_number (Err Missing) = no_such

abbrev pub ring_number : Option RingPlace → ℕ
ring_number (Some p) = 0
ring_number None = no_such
