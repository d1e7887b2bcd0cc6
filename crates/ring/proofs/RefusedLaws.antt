-- "Sheet questions check the header (6), then 15, then 19, before their other refusals": of a ring check, by number and row. Assumes nothing.
use Prim.Native.Nat.{ℕ}
use mathlib.Core.Path.{◌≡◌, refl}
use Rattle.heading.specs.declared.Header.{Header}
use Rattle.sheet.specs.Tables.{Tables}
use Rattle.std.proofs.Common.{Result, Ok, Err}
use Rattle.row.specs.declared.Unfound.{Unfound}
use Rattle.row.specs.declared.Unfound.TheVariants as Unfound
use Rattle.area.specs.declared.RingPlace.{RingPlace}
use Rattle.area.specs.Questions.{ring_at, found_number, found_row}
use Rattle.ring.specs.RingCheck.{check_found, ring_check_at, number_of, row_of}

-- where there is no such ring, its check is refused as the ring is
pub check-refused : (h : Header) (count : ℕ) (t : Tables) (k ring : ℕ) → (found_number (ring_at h count t k ring) ≡ 0 → ⊥)
    → (number_of (ring_check_at h count t k ring) ≡ found_number (ring_at h count t k ring)) × (row_of (ring_check_at h count t k ring) ≡ found_row (ring_at h count t k ring))
unfolding ring_check_at
check-refused h count t k ring refused = by (ring_at h count t k ring) refused
  where
    by : (a : Result RingPlace Unfound) → (found_number a ≡ 0 → ⊥) → (number_of (check_found t.points a) ≡ found_number a) × (row_of (check_found t.points a) ≡ found_row a)
    by (Ok p) f = absurd (f refl)
    by (Err Unfound.Missing) f = (refl, refl)
    by (Err (Unfound.Refused v)) f = (refl, refl)
