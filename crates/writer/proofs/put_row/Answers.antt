-- `put_row` meets its contract: keyword, fields, island counts, points, each behind the last. Assumes nothing.
use Prim.Native.Nat.{◌*◌}
use mathlib.Core.Path.{sym}
use native.Mathlib.Omega.{arith}
use lib.Seq.{length-take-le}
use Rattle.made.specs.Made.{tables}
use Rattle.writer.proofs.RowWays.{row-key-room, row-key, row-fields-room, row-fields, row-islands-room, row-islands, row-points-room, row-points}
use Rattle.writer.proofs.RowFacts.{row_is, kind-in, outside-in, vertices-in}
use Rattle.writer.proofs.put_row.Goals as goal

pub put_key-key_end-requires : goal.put_key-key_end-requires
put_key-key_end-requires c = (rw c.count_at.ensures (kind-in c.args.part.now.rows.now (row_is (tables c.args.part.now) c.requires.part_value).numbers).0, rw c.count_at.ensures (kind-in c.args.part.now.rows.now (row_is (tables c.args.part.now) c.requires.part_value).numbers).1, rw c.count_at-2.ensures (outside-in c.args.part.now.rows.now (row_is (tables c.args.part.now) c.requires.part_value).numbers), row-key-room (tables c.args.part.now) c.args.out.now c.args.at c.requires.part_in_bounds c.count_at.ensures c.count_at-2.ensures)

pub put_fields-fields_end-requires : goal.put_fields-fields_end-requires
put_fields-fields_end-requires c = record { rows_value = ((row_is (tables c.args.part.now) c.requires.part_value).numbers, (row_is (tables c.args.part.now) c.requires.part_value).letters-held); rows_in_bounds = row-fields-room (tables c.args.part.now) (row-key (tables c.args.part.now) c.args.out.now c.args.at c.requires.part_in_bounds c.count_at.ensures c.count_at-2.ensures c.put_key-key_end.ensures) }

pub slice_bounds-put_islands-end : goal.slice_bounds-put_islands-end
slice_bounds-put_islands-end c = sym (length-take-le c.count_at-i.result c.args.part.now.islands.now (rw c.count_at-i.ensures (row_is (tables c.args.part.now) c.requires.part_value).islands-held))

pub put_islands-islands_end-requires : goal.put_islands-islands_end-requires
put_islands-islands_end-requires c = (rw c.count_at-i.ensures (row_is (tables c.args.part.now) c.requires.part_value).islands-sum, row-islands-room (tables c.args.part.now) (row-fields (tables c.args.part.now) (row-key (tables c.args.part.now) c.args.out.now c.args.at c.requires.part_in_bounds c.count_at.ensures c.count_at-2.ensures c.put_key-key_end.ensures) c.put_fields-fields_end.ensures) c.count_at-i.ensures)

pub overflow_mul-p : goal.overflow_mul-p
overflow_mul-p c = omega (arith, c.count_at-p.ensures, vertices-in c.args.part.now.rows.now (row_is (tables c.args.part.now) c.requires.part_value).numbers)

pub slice_bounds-put_points-end : goal.slice_bounds-put_points-end
slice_bounds-put_points-end c = sym (length-take-le (2 * c.count_at-p.result) c.args.part.now.points.now (rw c.count_at-p.ensures (row_is (tables c.args.part.now) c.requires.part_value).points-held))

pub put_points-requires : goal.put_points-requires
put_points-requires c = (rw c.count_at-p.ensures (row_is (tables c.args.part.now) c.requires.part_value).points-real, row-points-room (tables c.args.part.now) (row-islands (tables c.args.part.now) (row-fields (tables c.args.part.now) (row-key (tables c.args.part.now) c.args.out.now c.args.at c.requires.part_in_bounds c.count_at.ensures c.count_at-2.ensures c.put_key-key_end.ensures) c.put_fields-fields_end.ensures) c.count_at-i.ensures c.put_islands-islands_end.ensures) c.count_at-p.ensures)

pub returns : goal.returns
returns c = row-points (tables c.args.part.now) (row-islands (tables c.args.part.now) (row-fields (tables c.args.part.now) (row-key (tables c.args.part.now) c.args.out.now c.args.at c.requires.part_in_bounds c.count_at.ensures c.count_at-2.ensures c.put_key-key_end.ensures) c.put_fields-fields_end.ensures) c.count_at-i.ensures c.put_islands-islands_end.ensures) c.count_at-p.ensures c.put_points.ensures
