-- What a row adds to a tally depends on its own part of the tables alone. Assumes nothing.
use mathlib.Core.Path.{◌≡◌, refl, ◌∙◌, ap}
use mathlib.Core.Bool.{true}
use Prim.Native.Nat.{ℕ}
use native.Mathlib.Omega.{arith}
use Rattle.std.proofs.Common.{Result, Ok, Err}
use Rattle.heading.specs.declared.Header.{Header}
use Rattle.sheet.specs.Tables.{Tables, ◌then◌, Starts, starting_at}
use Rattle.made.specs.Made.{first_of, own_of, is_made}
use Rattle.made.proofs.RowWays.{made_held}
use Rattle.made.proofs.OwnLaws.{cell-own, Own, own-alike, first_alike, first-own}
use Rattle.made.proofs.StartLaws.{own-moved, made-moved}
use Rattle.border.proofs.BorderLaws.{border-owned}
use Rattle.area.specs.declared.Areas.{Areas}
use Rattle.plane.specs.declared.NoArea.{NoArea}
use Rattle.plane.specs.declared.NoArea.TheVariants as NoArea
use Rattle.area.proofs.UsedLaws.{areas-owned}
use Rattle.tally.specs.declared.Tally.{Tally}
use Rattle.tally.specs.Take.{borders_areas, after_areas, border_taken, row_taken}
use Rattle.tally.specs.Sums.{row_figures, row_fits}

module _ (h : Header) where
  figures-owned : Own (row_figures h)
  unfolding row_figures
  figures-owned t m = rw (cell-own t 0 (omega arith), areas-owned t m, border-owned h t)

  fits-owned : Own (row_fits h)
  unfolding row_fits
  fits-owned t m = rw (cell-own t 0 (omega arith), areas-owned t m, border-owned h t)

  -- whatever stands behind it
  module _ (t u : Tables) (m : is_made t ≡ true) where
    pub figures-own : row_figures h (first_of t then u) ≡ row_figures h t
    figures-own = first_alike (row_figures h) figures-owned (first_of t then u) t (first-own t u (made_held t m)) m

    pub fits-own : row_fits h (first_of t then u) ≡ row_fits h t
    fits-own = first_alike (row_fits h) fits-owned (first_of t then u) t (first-own t u (made_held t m)) m

  -- wherever it stands
  module _ (s : Starts) (t : Tables) (m : is_made t ≡ true) where
    pub figures-moved : row_figures h (starting_at s t) ≡ row_figures h t
    figures-moved = own-alike (row_figures h) figures-owned (starting_at s t) t (own-moved s t) (made-moved s t ∙ m) m

    pub fits_moved : row_fits h (starting_at s t) ≡ row_fits h t
    fits_moved = own-alike (row_fits h) fits-owned (starting_at s t) t (own-moved s t) (made-moved s t ∙ m) m

  -- a running tally takes the border by its own part
  module _ (k : ℕ) (a : Tally) where
    after_owned : (t : Tables) (x : Result Areas NoArea) → after_areas h k (own_of t) a x ≡ after_areas h k t a x
    after_owned t (Ok r) = rw (border-owned h t)
    after_owned t (Err NoArea.Wide) = refl
    after_owned t (Err NoArea.Missing) = refl

    pub border-taken-owned : Own (λ (t : Tables). border_taken h k t a)
    unfolding border_taken
    border-taken-owned t m = ap (after_areas h k (own_of t) a) (areas-owned t m) ∙ after_owned t (borders_areas t)

    pub row-taken-owned : Own (λ (t : Tables). row_taken h k t a)
    unfolding row_taken
    row-taken-owned t m = rw (border-taken-owned t m, cell-own t 0 (omega arith))
