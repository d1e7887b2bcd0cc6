-- `put_fields` meets its contract. What is to come are the fields from `j` on; the schedule is over where its place is 0. Assumes nothing.
use mathlib.Core.List.{[]}
use native.Mathlib.Omega.{arith}
use Rattle.made.specs.Made.{tables_of}
use Rattle.row.specs.Walk.{cell_in}
use Rattle.writer.proofs.Putting.{putting-start, putting-end}
use Rattle.writer.proofs.RowFacts.{kind-in, places-few, schedule-here, schedule-has}
use Rattle.writer.proofs.RowWays.{fields-room, fields-on, fields-over}
use Rattle.writer.proofs.put_fields.Goals as goal

pub loop-at-init : goal.loop-at-init
loop-at-init c = putting-start _ _ _ c.requires.rows_in_bounds

pub shape_of-out-then-place-eq0 : goal.shape_of-out-then-place-eq0
shape_of-out-then-place-eq0 c = c.loop-at.invariant.size

pub returns-then-place-eq0 : goal.returns-then-place-eq0
returns-then-place-eq0 c = putting-end c.loop-at.invariant (fields-over (tables_of c.args.rows.now c.args.letters.now [] []) (cell_in c.args.rows.now 0) (kind-in c.args.rows.now c.requires.rows_value.0).1 c.loop-at.j c.field_at-place.result (rw c.count_at-kind.ensures at c.field_at-place.ensures) c.if-place-eq0.true)

pub put_field-next-requires : goal.put_field-next-requires
put_field-next-requires c = record { rows_value = c.requires.rows_value; place_value = schedule-has (cell_in c.args.rows.now 0) (kind-in c.args.rows.now c.requires.rows_value.0).1 c.loop-at.j c.field_at-place.result (rw c.count_at-kind.ensures at c.field_at-place.ensures) c.if-place-eq0.false; place_in_bounds = fields-room (tables_of c.args.rows.now c.args.letters.now [] []) (cell_in c.args.rows.now 0) (kind-in c.args.rows.now c.requires.rows_value.0).1 c.loop-at.j c.field_at-place.result (rw c.count_at-kind.ensures at c.field_at-place.ensures) c.if-place-eq0.false c.loop-at.invariant }

pub overflow_add-j : goal.overflow_add-j
overflow_add-j c = omega (arith, schedule-here (cell_in c.args.rows.now 0) (kind-in c.args.rows.now c.requires.rows_value.0).1 c.loop-at.j c.field_at-place.result (rw c.count_at-kind.ensures at c.field_at-place.ensures) c.if-place-eq0.false, places-few (cell_in c.args.rows.now 0) (kind-in c.args.rows.now c.requires.rows_value.0).1)

pub loop-at-smaller : goal.loop-at-smaller
loop-at-smaller c = omega (arith, schedule-here (cell_in c.args.rows.now 0) (kind-in c.args.rows.now c.requires.rows_value.0).1 c.loop-at.j c.field_at-place.result (rw c.count_at-kind.ensures at c.field_at-place.ensures) c.if-place-eq0.false)

pub loop-at-preserved : goal.loop-at-preserved
loop-at-preserved c = fields-on (tables_of c.args.rows.now c.args.letters.now [] []) (cell_in c.args.rows.now 0) (kind-in c.args.rows.now c.requires.rows_value.0).1 c.loop-at.j c.field_at-place.result (rw c.count_at-kind.ensures at c.field_at-place.ensures) c.if-place-eq0.false c.loop-at.invariant c.put_field-next.ensures
