-- The ways through the functions that move a judged sheet, and a sheet. Assumes nothing.
use mathlib.Core.Path.{◌≡◌, refl, sym, ◌∙◌, ap}
use mathlib.Core.List.{List, ◌++◌}
use mathlib.Core.Bool.{Bool, true, false, cond, not}
use Prim.Native.Nat.{ℕ, zero, suc, ◌*◌, ◌≤◌}
use native.Mathlib.Omega.{arith}
use lib.ListN.{length, take, drop, length-append, length-drop}
use lib.Seq.{length-take-le}
use lib.IntN.{ℤ}
use mir.Syntax.{w64}
use mir.Val.{SFits}
use mir.Facts.{to_z-of_z}
use borrow.Author.Tests.{not-true, not-false}
use Rattle.std.proofs.Common.{Result, Ok, Err}
use Rattle.record.specs.declared.Mode.TheVariants.{Loose}
use Rattle.kinds.specs.Kinds.{row_width, vertices_place}
use Rattle.heading.specs.declared.Header.{Header}
use Rattle.plane.specs.Moved.{moved}
use Rattle.plane.proofs.MovedLaws.{length_moved}
use Rattle.sheet.specs.Tables.{Tables}
use Rattle.made.specs.declared.Flaw.{Flaw}
use Rattle.made.specs.Made.{rest_of, none_before, are_reals, judge_of, used_of}
use Rattle.made.proofs.UsedLaws.{total, used-front, fine-long}
use Rattle.row.proofs.SeekLaws.{fine-rows}
use Rattle.edit.specs.declared.Unedited.TheVariants.{MovedOff}
use Rattle.edit.specs.Moves.{is_part, rows_stay, moved_rows, moved_tables, is_move, moved_after, move_of}
use Rattle.edit.specs.Used.{vertex_count, points_used, is_move_of, moved_points}
use Rattle.edit.proofs.PartWays.{bits}

-- ---- a judged sheet

module _ (dx dy : ℤ) (n : ℕ) (rows points : List ℤ) (fx : SFits w64 dx) (fy : SFits w64 dy) (a : Bool) (ea : a ≡ is_part (bits dx)) where
  x-part : is_part dx ≡ a
  x-part = sym (rw (to_z-of_z fx) at ea)

  pub off-x : not a ≡ true → false ≡ is_move_of dx dy n rows points
  unfolding is_move_of
  off-x t = rw (x-part ∙ not-true a t)

  module _ (ta : not a ≡ false) (b : Bool) (eb : b ≡ is_part (bits dy)) where
    y-part : is_part dy ≡ b
    y-part = sym (rw (to_z-of_z fy) at eb)

    pub off-y : not b ≡ true → false ≡ is_move_of dx dy n rows points
    unfolding is_move_of
    off-y t = rw (x-part ∙ not-false a ta, y-part ∙ not-true b t)

    module _ (tb : not b ≡ false) where
      pub both-parts : (is_part (bits dx) ≡ true) × (is_part (bits dy) ≡ true)
      both-parts = (sym ea ∙ not-false a ta, sym eb ∙ not-false b tb)

      module _ (d : Bool) (ed : d ≡ rows_stay (bits dx) (bits dy) n rows) where
        rows_as : rows_stay dx dy n rows ≡ d
        rows_as = sym (rw (to_z-of_z fx, to_z-of_z fy) at ed)

        pub off-rows : not d ≡ true → false ≡ is_move_of dx dy n rows points
        unfolding is_move_of
        off-rows t = rw (x-part ∙ not-false a ta, y-part ∙ not-false b tb, rows_as ∙ not-true d t)

        module _ (td : not d ≡ false) (v : ℕ) (ev : v ≡ vertex_count n rows) (f : Bool) (ef : f ≡ are_reals (moved (bits dx) (bits dy) (take (2 * v) points))) where
          points-as : are_reals (moved dx dy (points_used n rows points)) ≡ f
          points-as = sym (rw (to_z-of_z fx, to_z-of_z fy, ev) at ef)

          parts-rows : is_move_of dx dy n rows points ≡ f
          unfolding is_move_of
          parts-rows = rw (x-part ∙ not-false a ta, y-part ∙ not-false b tb, rows_as ∙ not-false d td) points-as

          pub off-points : not f ≡ true → false ≡ is_move_of dx dy n rows points
          off-points t = sym (parts-rows ∙ not-true f t)

          pub all_stay : not f ≡ false → true ≡ is_move_of dx dy n rows points
          all_stay t = sym (parts-rows ∙ not-false f t)

-- what the two stores leave
module _ (dx dy : ℤ) (n : ℕ) (rows points : List ℤ) (fx : SFits w64 dx) (fy : SFits w64 dy) where
  pub rows_left : (u : List ℤ) → u ≡ moved_rows (bits dx) (bits dy) n rows → u ≡ moved_rows dx dy n rows
  rows_left u e = rw (to_z-of_z fx, to_z-of_z fy) at e

  pub points-left : (v : ℕ) → v ≡ vertex_count n rows → 2 * vertex_count n rows ≤ length points → (w : List ℤ) → w ≡ moved (bits dx) (bits dy) (take (2 * v) points)
      → w ++ drop (2 * v) points ≡ moved_points dx dy n rows points
  points-left v ev l w e =
      let f : w ≡ moved dx dy (points_used n rows points) = rw (to_z-of_z fx, to_z-of_z fy, ev) at e in
      let k : 2 * v ≡ length (moved dx dy (points_used n rows points)) = omega (arith, length_moved dx dy (points_used n rows points), length-take-le (2 * vertex_count n rows) points l) in
      rw (f, k)

  pub points-length : (v : ℕ) → v ≡ vertex_count n rows → 2 * vertex_count n rows ≤ length points → (w : List ℤ) → w ≡ moved (bits dx) (bits dy) (take (2 * v) points)
      → length (w ++ drop (2 * v) points) ≡ length points
  points-length v ev l w e =
      omega (
        arith,
        length-append w (drop (2 * v) points),
        ap length e ∙ length_moved (bits dx) (bits dy) (take (2 * v) points),
        length-take-le (2 * v) points (omega arith),
        length-drop (2 * v) points,
      )

-- ---- the points that rows use

total-is : (n : ℕ) (t : Tables) → total vertices_place n t ≡ vertex_count n t.rows
unfolding total vertex_count
total-is zero t = refl
total-is (suc n) t = rw (total-is n (rest_of t))

pub used-points : (n : ℕ) (t : Tables) → (used_of n t).points ≡ points_used n t.rows t.points
used-points n t = ap (λ (x : Tables). x.points) (used-front n t) ∙ rw (total-is n t)

-- ---- a sheet

module _ (h : Header) (count : ℕ) (t : Tables) (dx dy : ℤ) (v : Result Unit Flaw) (e : v ≡ judge_of Loose h count t) where
  pub judged-long : v ≡ Ok tt → (row_width * count ≤ length t.rows) × (2 * vertex_count count t.rows ≤ length t.points)
  judged-long f = let l = fine-long Loose count none_before t (fine-rows h count t (sym e ∙ f)) in (l.rows_in, omega (arith, l.points-in, total-is count t))

  pub move-after : (w : Result Unit Flaw) → v ≡ w → moved_after w count (is_move dx dy count t) ≡ move_of h count t dx dy
  unfolding move_of
  move-after w f = rw (← e, f)

  module _ (f : v ≡ Ok tt) (fx : SFits w64 dx) (fy : SFits w64 dy) (b : Bool) (q : b ≡ is_move_of (bits dx) (bits dy) count t.rows t.points) where
    is-move : is_move dx dy count t ≡ b
    unfolding is_move is_move_of
    is-move = rw (used-points count t) (sym (rw (to_z-of_z fx, to_z-of_z fy) at q))

    module _ (rows points : List ℤ) (er : rows ≡ cond b (moved_rows (bits dx) (bits dy) count t.rows) t.rows)
        (ep : points ≡ cond b (moved_points (bits dx) (bits dy) count t.rows t.points) t.points) where
      pub sheet-moved : b ≡ true → (Ok count ≡ move_of h count t dx dy) × ((rows ≡ (moved_tables dx dy count t).rows) × (points ≡ (moved_tables dx dy count t).points))
      unfolding moved_tables
      sheet-moved y =
          (ap (λ (x : Bool). cond x (Ok count) (Err MovedOff)) (sym (is-move ∙ y)) ∙ move-after (Ok tt) f, (rw (to_z-of_z fx, to_z-of_z fy, y) at er, (rw (to_z-of_z fx, to_z-of_z fy, y) at ep) ∙ rw (used-points count t)))

      pub sheet-off : b ≡ false → (Err MovedOff ≡ move_of h count t dx dy) × ((rows ≡ t.rows) × (points ≡ t.points))
      sheet-off y = (ap (λ (x : Bool). cond x (Ok count) (Err MovedOff)) (sym (is-move ∙ y)) ∙ move-after (Ok tt) f, (rw y at er, rw y at ep))
