-- `edit::remove_row` meets its contract: the row is sought, then taken out. Assumes nothing.
use native.Mathlib.Omega.{arith}
use Rattle.made.specs.Made.{tables_of}
use Rattle.edit.proofs.RemoveWays.{remove-after, remove-asks}
use Rattle.edit.proofs.removing.remove_row.Goals as goal

pub remove_at-requires : goal.remove_at-requires
remove_at-requires c = remove-asks c.args.header c.args.count (tables_of c.args.rows.now c.args.letters.now c.args.islands.now c.args.points.now) c.args.row c.seek.result c.seek.ensures _ c.in_ok-d.was

pub overflow_sub-result : goal.overflow_sub-result
overflow_sub-result c = let h = (remove-asks c.args.header c.args.count (tables_of c.args.rows.now c.args.letters.now c.args.islands.now c.args.points.now) c.args.row c.seek.result c.seek.ensures _ c.in_ok-d.was).1 in omega arith

pub returns : goal.returns
returns c = record { value = remove-after c.args.header c.args.count (tables_of c.args.rows.now c.args.letters.now c.args.islands.now c.args.points.now) c.args.row c.seek.result c.seek.ensures _ c.in_ok-d.was; rows_after = c.remove_at.ensures.rows_after; letters_after = c.remove_at.ensures.letters_after; islands_after = c.remove_at.ensures.islands_after; points_after = c.remove_at.ensures.points_after }
