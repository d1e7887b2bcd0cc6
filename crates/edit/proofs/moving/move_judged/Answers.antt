-- `edit::move_judged` meets its contract: the ways are in `SheetMoves`. Assumes nothing.
use mathlib.Core.Bool.{not}
use Prim.Native.Nat.{◌*◌}
use mathlib.Core.Path.{refl, sym, ◌∙◌, ap}
use native.Mathlib.Omega.{arith}
use lib.ListN.{length}
use lib.Seq.{length-take-le}
use borrow.Author.Tests.{not-false}
use Rattle.edit.proofs.RowMoves.{length-row}
use Rattle.edit.proofs.RowLoops.{length-each}
use Rattle.edit.proofs.SheetMoves.{off-x, off-y, both-parts, off-rows, off-points, all_stay, rows_left, points-left, points-length}
use Rattle.edit.proofs.moving.move_judged.Goals as goal

pub returns-then-not-is_part : goal.returns-then-not-is_part
returns-then-not-is_part c = record { value = off-x _ _ c.args.count c.args.rows.now c.args.points.now c.ranges.dx c.ranges.dy _ c.is_part.ensures (ap not c.if-not-is_part.true); rows_after = refl; points_after = refl }

pub returns-then-not-is_part-2 : goal.returns-then-not-is_part-2
returns-then-not-is_part-2 c = record { value = off-y _ _ c.args.count c.args.rows.now c.args.points.now c.ranges.dx c.ranges.dy _ c.is_part.ensures (ap not c.if-not-is_part.false) _ c.is_part-2.ensures (ap not c.if-not-is_part-2.true); rows_after = refl; points_after = refl }

pub rows_stay-requires : goal.rows_stay-requires
rows_stay-requires c = (c.requires.0, (both-parts _ _ c.args.count c.args.rows.now c.args.points.now c.ranges.dx c.ranges.dy _ c.is_part.ensures (ap not c.if-not-is_part.false) _ c.is_part-2.ensures (ap not c.if-not-is_part-2.false)).0, (both-parts _ _ c.args.count c.args.rows.now c.args.points.now c.ranges.dx c.ranges.dy _ c.is_part.ensures (ap not c.if-not-is_part.false) _ c.is_part-2.ensures (ap not c.if-not-is_part-2.false)).1)

pub returns-then-not-rows_stay : goal.returns-then-not-rows_stay
returns-then-not-rows_stay c = record { value = off-rows _ _ c.args.count c.args.rows.now c.args.points.now c.ranges.dx c.ranges.dy _ c.is_part.ensures (ap not c.if-not-is_part.false) _ c.is_part-2.ensures (ap not c.if-not-is_part-2.false) _ c.rows_stay.ensures (ap not c.if-not-rows_stay.true); rows_after = refl; points_after = refl }

pub vertices_of-v-requires : goal.vertices_of-v-requires
vertices_of-v-requires c = (c.requires.0, omega (arith, c.requires.1))

pub overflow_mul-used : goal.overflow_mul-used
overflow_mul-used c = omega (arith, c.requires.1, c.vertices_of-v.ensures)

pub slice_bounds-points_stay-end : goal.slice_bounds-points_stay-end
slice_bounds-points_stay-end c = omega (arith, c.requires.1, c.vertices_of-v.ensures)

pub slice_bounds-points_stay-end-2 : goal.slice_bounds-points_stay-end-2
slice_bounds-points_stay-end-2 c = sym (length-take-le (2 * c.vertices_of-v.result) c.args.points.now (omega (arith, c.requires.1, c.vertices_of-v.ensures)))

pub points_stay-requires : goal.points_stay-requires
points_stay-requires c = (length-take-le (2 * c.vertices_of-v.result) c.args.points.now (omega (arith, c.requires.1, c.vertices_of-v.ensures)), (both-parts _ _ c.args.count c.args.rows.now c.args.points.now c.ranges.dx c.ranges.dy _ c.is_part.ensures (ap not c.if-not-is_part.false) _ c.is_part-2.ensures (ap not c.if-not-is_part-2.false)).0, (both-parts _ _ c.args.count c.args.rows.now c.args.points.now c.ranges.dx c.ranges.dy _ c.is_part.ensures (ap not c.if-not-is_part.false) _ c.is_part-2.ensures (ap not c.if-not-is_part-2.false)).1)

pub returns-then-not-points_stay : goal.returns-then-not-points_stay
returns-then-not-points_stay c = record { value = off-points _ _ c.args.count c.args.rows.now c.args.points.now c.ranges.dx c.ranges.dy _ c.is_part.ensures (ap not c.if-not-is_part.false) _ c.is_part-2.ensures (ap not c.if-not-is_part-2.false) _ c.rows_stay.ensures (ap not c.if-not-rows_stay.false) _ c.vertices_of-v.ensures _ c.points_stay.ensures (ap not c.if-not-points_stay.true); rows_after = refl; points_after = refl }

pub move_rows-requires : goal.move_rows-requires
move_rows-requires c = (c.requires.0, sym c.rows_stay.ensures ∙ not-false _ (ap not c.if-not-rows_stay.false))

pub slice_bounds-move_points-end : goal.slice_bounds-move_points-end
slice_bounds-move_points-end c = omega (arith, c.requires.1, c.vertices_of-v.ensures)

pub slice_bounds-move_points-end-2 : goal.slice_bounds-move_points-end-2
slice_bounds-move_points-end-2 c = sym (length-take-le (2 * c.vertices_of-v.result) c.args.points.now (omega (arith, c.requires.1, c.vertices_of-v.ensures)))

pub move_points-requires : goal.move_points-requires
move_points-requires c = (length-take-le (2 * c.vertices_of-v.result) c.args.points.now (omega (arith, c.requires.1, c.vertices_of-v.ensures)), sym c.points_stay.ensures ∙ not-false _ (ap not c.if-not-points_stay.false))

pub shape_of-rows : goal.shape_of-rows
shape_of-rows c = ap length c.move_rows.ensures ∙ length-each _ (length-row _ _) c.args.count c.args.rows.now c.requires.0

pub shape_of-points : goal.shape_of-points
shape_of-points c = points-length _ _ c.args.count c.args.rows.now c.args.points.now c.ranges.dx c.ranges.dy _ c.vertices_of-v.ensures c.requires.1 _ c.move_points.ensures

pub returns : goal.returns
returns c = record { value = all_stay _ _ c.args.count c.args.rows.now c.args.points.now c.ranges.dx c.ranges.dy _ c.is_part.ensures (ap not c.if-not-is_part.false) _ c.is_part-2.ensures (ap not c.if-not-is_part-2.false) _ c.rows_stay.ensures (ap not c.if-not-rows_stay.false) _ c.vertices_of-v.ensures _ c.points_stay.ensures (ap not c.if-not-points_stay.false); rows_after = rows_left _ _ c.args.count c.args.rows.now c.args.points.now c.ranges.dx c.ranges.dy _ c.move_rows.ensures; points_after = points-left _ _ c.args.count c.args.rows.now c.args.points.now c.ranges.dx c.ranges.dy _ c.vertices_of-v.ensures c.requires.1 _ c.move_points.ensures }
