-- "Sheet questions check the header (6), then 15, then 19, before their other refusals": of a ring's place, its area and the net, by number and row. Assumes nothing.
use Prim.Native.Nat.{ℕ}
use mathlib.Core.Path.{◌≡◌, refl}
use Rattle.heading.specs.declared.Header.{Header}
use Rattle.sheet.specs.Tables.{Tables}
use Rattle.std.proofs.Common.{Option, Some, None, Result, Ok, Err}
use Rattle.plane.specs.declared.NoArea.{NoArea}
use Rattle.plane.specs.declared.NoArea.TheVariants as NoArea
use Rattle.row.specs.declared.Stand.{Stand}
use Rattle.row.specs.declared.Unfound.{Unfound}
use Rattle.row.specs.declared.Unfound.TheVariants as Unfound
use Rattle.row.specs.Seek.{sought_of}
use Rattle.row.specs.Seek as Seek
use Rattle.area.specs.declared.Areas.{Areas}
use Rattle.area.specs.declared.RingPlace.{RingPlace}
use Rattle.area.specs.BorderRings.{net_of, areas_number, ring_number}
use Rattle.area.specs.Questions.{ring_from, answer_of, ring_or_missing, ring_found, ring_at, area_found, ring_area_at, net_found, net_area_at, found_number, found_row, number_of, row_of}

-- a ring of a border, and its areas, have the paper's number wherever they are answered
pub ring-number : (first : ℕ) (r : Option RingPlace) → found_number (ring_or_missing (ring_from first r)) ≡ ring_number r
ring-number first (Some p) = refl
ring-number first None = refl

pub net-number : (a : Result Areas NoArea) → number_of (answer_of (net_of a)) ≡ areas_number a
net-number (Ok r) = refl
net-number (Err NoArea.Wide) = refl
net-number (Err NoArea.Missing) = refl

module _ (h : Header) (count : ℕ) (t : Tables) (k : ℕ) (refused : Seek.number_of (sought_of h count t k) ≡ 0 → ⊥) where
  pub ring-refused : (ring : ℕ) → (found_number (ring_at h count t k ring) ≡ Seek.number_of (sought_of h count t k)) × (found_row (ring_at h count t k ring) ≡ Seek.row_of (sought_of h count t k))
  unfolding ring_at
  ring-refused ring = by (sought_of h count t k) refused
    where
      by : (s : Result Stand Unfound) → (Seek.number_of s ≡ 0 → ⊥) → (found_number (ring_found t ring s) ≡ Seek.number_of s) × (found_row (ring_found t ring s) ≡ Seek.row_of s)
      by (Ok d) f = absurd (f refl)
      by (Err Unfound.Missing) f = (refl, refl)
      by (Err (Unfound.Refused v)) f = (refl, refl)

  pub net-refused : (number_of (net_area_at h count t k) ≡ Seek.number_of (sought_of h count t k)) × (row_of (net_area_at h count t k) ≡ Seek.row_of (sought_of h count t k))
  unfolding net_area_at
  net-refused = by (sought_of h count t k) refused
    where
      by : (s : Result Stand Unfound) → (Seek.number_of s ≡ 0 → ⊥) → (number_of (net_found t s) ≡ Seek.number_of s) × (row_of (net_found t s) ≡ Seek.row_of s)
      by (Ok d) f = absurd (f refl)
      by (Err Unfound.Missing) f = (refl, refl)
      by (Err (Unfound.Refused v)) f = (refl, refl)

-- where there is no such ring, its area is refused as the ring is
pub area-refused : (h : Header) (count : ℕ) (t : Tables) (k ring : ℕ) → (found_number (ring_at h count t k ring) ≡ 0 → ⊥)
    → (number_of (ring_area_at h count t k ring) ≡ found_number (ring_at h count t k ring)) × (row_of (ring_area_at h count t k ring) ≡ found_row (ring_at h count t k ring))
unfolding ring_area_at
area-refused h count t k ring refused = by (ring_at h count t k ring) refused
  where
    by : (a : Result RingPlace Unfound) → (found_number a ≡ 0 → ⊥) → (number_of (area_found t.points a) ≡ found_number a) × (row_of (area_found t.points a) ≡ found_row a)
    by (Ok p) f = absurd (f refl)
    by (Err Unfound.Missing) f = (refl, refl)
    by (Err (Unfound.Refused v)) f = (refl, refl)
