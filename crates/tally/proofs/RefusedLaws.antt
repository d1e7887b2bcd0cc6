-- "Sheet questions check the header (6), then 15, then 19, before their other refusals": of a running tally, by number and row. Assumes nothing.
use Prim.Native.Nat.{ℕ}
use mathlib.Core.Path.{◌≡◌, refl}
use Rattle.std.proofs.Common.{Result, Ok, Err}
use Rattle.heading.specs.declared.Header.{Header}
use Rattle.sheet.specs.Tables.{Tables}
use Rattle.row.specs.declared.Stand.{Stand}
use Rattle.row.specs.declared.Unfound.{Unfound}
use Rattle.row.specs.declared.Unfound.TheVariants as Unfound
use Rattle.row.specs.Seek.{sought_of}
use Rattle.row.specs.Seek as Seek
use Rattle.tally.specs.declared.Tally.{Tally}
use Rattle.tally.specs.Take.{taken_at, taken_of, number_of, row_of}

pub take-refused : (a : Tally) (h : Header) (count : ℕ) (t : Tables) (k : ℕ) → (Seek.number_of (sought_of h count t k) ≡ 0 → ⊥)
    → (number_of (taken_of a h count t k).outcome ≡ Seek.number_of (sought_of h count t k)) × (row_of (taken_of a h count t k).outcome ≡ Seek.row_of (sought_of h count t k))
unfolding taken_of
take-refused a h count t k refused = by (sought_of h count t k) refused
  where
    by : (s : Result Stand Unfound) → (Seek.number_of s ≡ 0 → ⊥) → (number_of (taken_at h t k a s).outcome ≡ Seek.number_of s) × (row_of (taken_at h t k a s).outcome ≡ Seek.row_of s)
    by (Ok d) f = absurd (f refl)
    by (Err Unfound.Missing) f = (refl, refl)
    by (Err (Unfound.Refused v)) f = (refl, refl)
