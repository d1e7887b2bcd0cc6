-- `edit::remove_at` meets its contract: the ways are in `RemoveWays`. Assumes nothing.
use mathlib.Core.Path.{◌∙◌, ap}
use native.Mathlib.Omega.{arith}
use lib.ListN.{length}
use Prim.Native.Nat.{◌<◌}
use borrow.Author.Rules.{rules}
use Rattle.made.specs.Made.{tables_of}
use Rattle.edit.proofs.CloseWays.{length-closed}
use Rattle.edit.proofs.RemoveWays.{own-there, end-asks, letters-asks, islands-asks, points-asks, rows-asks, behind-in, lower-asks, rows-length, rows-done, letters-done, islands-done, points-done}
use Rattle.edit.proofs.removing.remove_at.Goals as goal

pub overflow_add-r : goal.overflow_add-r
overflow_add-r c = omega (arith, own-there c.args.count c.args.row (tables_of c.args.rows.now c.args.letters.now c.args.islands.now c.args.points.now) c.requires.0 c.requires.1 c.args.d c.requires.2 9 (omega arith))

pub counted-l-requires : goal.counted-l-requires
counted-l-requires c = own-there c.args.count c.args.row (tables_of c.args.rows.now c.args.letters.now c.args.islands.now c.args.points.now) c.requires.0 c.requires.1 c.args.d c.requires.2 9 (omega arith)

pub overflow_add-r-2 : goal.overflow_add-r-2
overflow_add-r-2 c = omega (arith, own-there c.args.count c.args.row (tables_of c.args.rows.now c.args.letters.now c.args.islands.now c.args.points.now) c.requires.0 c.requires.1 c.args.d c.requires.2 10 (omega arith))

pub counted-i-requires : goal.counted-i-requires
counted-i-requires c = own-there c.args.count c.args.row (tables_of c.args.rows.now c.args.letters.now c.args.islands.now c.args.points.now) c.requires.0 c.requires.1 c.args.d c.requires.2 10 (omega arith)

pub overflow_add-r-3 : goal.overflow_add-r-3
overflow_add-r-3 c = omega (arith, own-there c.args.count c.args.row (tables_of c.args.rows.now c.args.letters.now c.args.islands.now c.args.points.now) c.requires.0 c.requires.1 c.args.d c.requires.2 11 (omega arith))

pub counted-v-requires : goal.counted-v-requires
counted-v-requires c = own-there c.args.count c.args.row (tables_of c.args.rows.now c.args.letters.now c.args.islands.now c.args.points.now) c.requires.0 c.requires.1 c.args.d c.requires.2 11 (omega arith)

pub end_of-end-requires : goal.end_of-end-requires
end_of-end-requires c = end-asks c.args.count (tables_of c.args.rows.now c.args.letters.now c.args.islands.now c.args.points.now) c.requires.0 (let h = c.requires.1 in omega arith) (omega arith) (omega arith) (omega arith) (omega arith)

pub close_letters-requires : goal.close_letters-requires
close_letters-requires c = letters-asks c.args.count c.args.row (tables_of c.args.rows.now c.args.letters.now c.args.islands.now c.args.points.now) c.requires.0 c.requires.1 c.args.d c.requires.2 c.end_of-end.result c.end_of-end.ensures _ c.counted-l.ensures.0

pub close_islands-requires : goal.close_islands-requires
close_islands-requires c = islands-asks c.args.count c.args.row (tables_of c.args.rows.now c.args.letters.now c.args.islands.now c.args.points.now) c.requires.0 c.requires.1 c.args.d c.requires.2 c.end_of-end.result c.end_of-end.ensures _ c.counted-i.ensures.0

pub overflow_mul-v : goal.overflow_mul-v
overflow_mul-v c = omega (arith, points-asks c.args.count c.args.row (tables_of c.args.rows.now c.args.letters.now c.args.islands.now c.args.points.now) c.requires.0 c.requires.1 c.args.d c.requires.2 c.end_of-end.result c.end_of-end.ensures _ c.counted-v.ensures.0)

pub close_numbers-requires : goal.close_numbers-requires
close_numbers-requires c = points-asks c.args.count c.args.row (tables_of c.args.rows.now c.args.letters.now c.args.islands.now c.args.points.now) c.requires.0 c.requires.1 c.args.d c.requires.2 c.end_of-end.result c.end_of-end.ensures _ c.counted-v.ensures.0

pub close_numbers-requires-2 : goal.close_numbers-requires-2
close_numbers-requires-2 c = rows-asks c.args.count c.args.row (tables_of c.args.rows.now c.args.letters.now c.args.islands.now c.args.points.now) c.requires.0 c.requires.1 c.args.d c.requires.2 c.end_of-end.result c.end_of-end.ensures

pub overflow_sub-count : goal.overflow_sub-count
overflow_sub-count c = let h = c.requires.1 in omega arith

pub overflow_sub-count-2 : goal.overflow_sub-count-2
overflow_sub-count-2 c = let h = c.requires.1 in omega arith

pub offset_bounds-rows-r : goal.offset_bounds-rows-r
offset_bounds-rows-r c =
    let h = own-there c.args.count c.args.row (tables_of c.args.rows.now c.args.letters.now c.args.islands.now c.args.points.now) c.requires.0 c.requires.1 c.args.d c.requires.2 14 (omega arith) in
    let k : c.args.d.row < length c.args.rows.now = omega (arith, h) in
    search rules

pub slice_bounds-lower_rows-count : goal.slice_bounds-lower_rows-count
slice_bounds-lower_rows-count c = behind-in c.args.count c.args.row (tables_of c.args.rows.now c.args.letters.now c.args.islands.now c.args.points.now) c.requires.0 c.requires.1 c.args.d c.requires.2 c.end_of-end.result c.end_of-end.ensures _ c.close_numbers-2.ensures

pub slice_bounds-lower_rows-start : goal.slice_bounds-lower_rows-start
slice_bounds-lower_rows-start c = behind-in c.args.count c.args.row (tables_of c.args.rows.now c.args.letters.now c.args.islands.now c.args.points.now) c.requires.0 c.requires.1 c.args.d c.requires.2 c.end_of-end.result c.end_of-end.ensures _ c.close_numbers-2.ensures

pub lower_rows-requires : goal.lower_rows-requires
lower_rows-requires c = let a = lower-asks c.args.count c.args.row (tables_of c.args.rows.now c.args.letters.now c.args.islands.now c.args.points.now) c.requires.0 c.requires.1 c.args.d c.requires.2 c.end_of-end.result c.end_of-end.ensures _ c.close_numbers-2.ensures in (a.0, c.counted-l.ensures.1, c.counted-i.ensures.1, c.counted-v.ensures.1, a.1)

pub shape_of-rows : goal.shape_of-rows
shape_of-rows c = rows-length c.args.count c.args.row (tables_of c.args.rows.now c.args.letters.now c.args.islands.now c.args.points.now) c.requires.0 c.requires.1 c.args.d c.requires.2 c.end_of-end.result c.end_of-end.ensures _ c.close_numbers-2.ensures _ _ _ c.counted-l.ensures.0 c.counted-i.ensures.0 c.counted-v.ensures.0 _ c.lower_rows.ensures

pub shape_of-letters : goal.shape_of-letters
shape_of-letters c = ap length c.close_letters.ensures ∙ length-closed _ _ _ _ (letters-asks c.args.count c.args.row (tables_of c.args.rows.now c.args.letters.now c.args.islands.now c.args.points.now) c.requires.0 c.requires.1 c.args.d c.requires.2 c.end_of-end.result c.end_of-end.ensures _ c.counted-l.ensures.0)

pub shape_of-islands : goal.shape_of-islands
shape_of-islands c = ap length c.close_islands.ensures ∙ length-closed _ _ _ _ (islands-asks c.args.count c.args.row (tables_of c.args.rows.now c.args.letters.now c.args.islands.now c.args.points.now) c.requires.0 c.requires.1 c.args.d c.requires.2 c.end_of-end.result c.end_of-end.ensures _ c.counted-i.ensures.0)

pub shape_of-points : goal.shape_of-points
shape_of-points c = ap length c.close_numbers.ensures ∙ length-closed _ _ _ _ (points-asks c.args.count c.args.row (tables_of c.args.rows.now c.args.letters.now c.args.islands.now c.args.points.now) c.requires.0 c.requires.1 c.args.d c.requires.2 c.end_of-end.result c.end_of-end.ensures _ c.counted-v.ensures.0)

pub returns : goal.returns
returns c = record { rows_after = rows-done c.args.count c.args.row (tables_of c.args.rows.now c.args.letters.now c.args.islands.now c.args.points.now) c.requires.0 c.requires.1 c.args.d c.requires.2 c.end_of-end.result c.end_of-end.ensures _ c.close_numbers-2.ensures _ _ _ c.counted-l.ensures.0 c.counted-i.ensures.0 c.counted-v.ensures.0 _ c.lower_rows.ensures; letters_after = letters-done c.args.count c.args.row (tables_of c.args.rows.now c.args.letters.now c.args.islands.now c.args.points.now) c.requires.0 c.requires.1 c.args.d c.requires.2 c.end_of-end.result c.end_of-end.ensures _ c.counted-l.ensures.0 _ c.close_letters.ensures; islands_after = islands-done c.args.count c.args.row (tables_of c.args.rows.now c.args.letters.now c.args.islands.now c.args.points.now) c.requires.0 c.requires.1 c.args.d c.requires.2 c.end_of-end.result c.end_of-end.ensures _ c.counted-i.ensures.0 _ c.close_islands.ensures; points_after = points-done c.args.count c.args.row (tables_of c.args.rows.now c.args.letters.now c.args.islands.now c.args.points.now) c.requires.0 c.requires.1 c.args.d c.requires.2 c.end_of-end.result c.end_of-end.ensures _ c.counted-v.ensures.0 _ c.close_numbers.ensures }
