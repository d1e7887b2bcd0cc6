-- "Sheet questions check the header (6), then 15, then 19, before their other refusals": of a border and of a text, by number and row. Assumes nothing.
use Prim.Native.Nat.{ℕ}
use mathlib.Core.Path.{◌≡◌, refl}
use Rattle.heading.specs.declared.Header.{Header}
use Rattle.sheet.specs.Tables.{Tables}
use Rattle.std.specs.Prelude.{Result, Ok, Err}
use Rattle.row.specs.declared.Stand.{Stand}
use Rattle.row.specs.declared.Unfound.{Unfound}
use Rattle.row.specs.declared.Unfound.TheVariants.{Missing, Refused}
use Rattle.row.specs.Seek.{sought_of}
use Rattle.row.specs.Seek as Seek
use Rattle.border.specs.BorderAt.{border_found, border_at}
use Rattle.border.specs.BorderAt as BorderAt
use Rattle.border.specs.TextAt.{text_found, text_at}
use Rattle.border.specs.TextAt as TextAt

module _ (h : Header) (count : ℕ) (t : Tables) (k : ℕ) (refused : Seek.number_of (sought_of h count t k) ≡ 0 → ⊥) where
  pub border-refused : (BorderAt.number_of (border_at h count t k) ≡ Seek.number_of (sought_of h count t k)) × (BorderAt.row_of (border_at h count t k) ≡ Seek.row_of (sought_of h count t k))
  unfolding border_at
  border-refused = by (sought_of h count t k) refused
    where
      by : (s : Result Stand Unfound) → (Seek.number_of s ≡ 0 → ⊥) → (BorderAt.number_of (border_found h t s) ≡ Seek.number_of s) × (BorderAt.row_of (border_found h t s) ≡ Seek.row_of s)
      by (Ok d) f = absurd (f refl)
      by (Err Missing) f = (refl, refl)
      by (Err (Refused v)) f = (refl, refl)

  pub text-refused : (TextAt.number_of (text_at h count t k) ≡ Seek.number_of (sought_of h count t k)) × (TextAt.row_of (text_at h count t k) ≡ Seek.row_of (sought_of h count t k))
  unfolding text_at
  text-refused = by (sought_of h count t k) refused
    where
      by : (s : Result Stand Unfound) → (Seek.number_of s ≡ 0 → ⊥) → (TextAt.number_of (text_found t s) ≡ Seek.number_of s) × (TextAt.row_of (text_found t s) ≡ Seek.row_of s)
      by (Ok d) f = absurd (f refl)
      by (Err Missing) f = (refl, refl)
      by (Err (Refused v)) f = (refl, refl)
