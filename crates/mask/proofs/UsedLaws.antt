-- The mask of a row (document 02, T-03): what stands behind the used part never matters, and the row may be asked about alone. Assumes nothing.
use mathlib.Core.Path.{◌≡◌, refl, sym, ◌∙◌, ap}
use mathlib.Core.Bool.{true}
use Prim.Native.Nat.{ℕ, ◌*◌, ◌<◌}
use native.Mathlib.Omega.{arith}
use lib.ListN.{drop, take-append-drop}
use lib.Seq.{length-take-le}
use lib.IntN.{ℤ}
use Rattle.record.specs.declared.Mode.TheVariants.{Loose}
use Rattle.kinds.specs.Kinds.{vertices_place}
use Rattle.heading.specs.declared.Header.{Header}
use Rattle.sheet.specs.Tables.{Tables}
use Rattle.std.specs.Prelude.{Ok}
use Rattle.made.specs.Made.{nat_of, count_at, islands_of, points_of, own_of, is_made, judge_of, used_of}
use Rattle.made.proofs.RowWays.{made_held}
use Rattle.made.proofs.OwnLaws.{cell-own, islands-own}
use Rattle.row.specs.Walk.{stand_of, left_at}
use Rattle.row.specs.Alone.{row_alone}
use Rattle.row.proofs.UsedLaws.{Question, asked-used, asked-alone}
use Rattle.mask.specs.Masks.{mask_of, mask_of_row, mask_found, mask_at}
use Rattle.mask.proofs.SameLaws.{mask-own}

module _ (t : Tables) (m : is_made t ≡ true) (cx cy : ℤ) (s : ℕ) where
  border-owned : mask_of (count_at (own_of t) vertices_place) (islands_of (own_of t)) (points_of t) cx cy s ≡ mask_of (count_at t vertices_place) (islands_of t) t.points cx cy s
  border-owned =
      let v = count_at t vertices_place in
      rw (islands-own t, cell-own t vertices_place (omega arith))
      (sym (mask-own v (islands_of t) (points_of t) (drop (2 * v) t.points) cx cy s (omega (arith, length-take-le (2 * v) t.points (made_held t m).points)))
      ∙ ap (λ ps. mask_of v (islands_of t) ps cx cy s) (take-append-drop (2 * v) t.points))

  mask-owned : mask_of_row (own_of t) cx cy s ≡ mask_of_row t cx cy s
  unfolding mask_of_row
  mask-owned = rw (border-owned, cell-own t 0 (omega arith))

masks : (cx cy : ℤ) (s : ℕ) → Question (mask_found cx cy s)
masks cx cy s = record { own = λ t k m. sym (mask-owned (left_at t (stand_of k t.rows)) m cx cy s); missing = λ t u. refl; refused = λ t u v. refl }

module _ (h : Header) (n : ℕ) (t : Tables) (k : ℕ) (cx cy side : ℤ) where
  -- **what stands behind the used part never matters**, of any tables
  pub mask-used : mask_at h n (used_of n t) k cx cy side ≡ mask_at h n t k cx cy side
  unfolding mask_at
  mask-used = asked-used (mask_found cx cy (nat_of side)) (masks cx cy (nat_of side)) h n t k

  -- **asked of the row alone**, a row of a well made sheet
  pub mask-alone : judge_of Loose h n t ≡ Ok tt → k < n → mask_at h 1 (row_alone k t) 0 cx cy side ≡ mask_at h n t k cx cy side
  unfolding mask_at
  mask-alone e l = asked-alone h n t k e l (mask_found cx cy (nat_of side)) (masks cx cy (nat_of side))
