-- `put_field` meets its contract: one way for each thing that a field may be. Assumes nothing.
use mathlib.Core.List.{[]}
use native.Mathlib.Omega.{arith}
use Rattle.made.specs.Made.{tables_of}
use Rattle.writer.proofs.Putting.{line-room, line-put, real-asked, real-put}
use Rattle.writer.proofs.RowWays.{field_is, field-held, field-integer, field-real}
use Rattle.writer.proofs.put_field.Goals as goal

pub put_line-requires : goal.put_line-requires
put_line-requires c = line-room (field_is (tables_of c.args.rows.now c.args.letters.now [] []) c.args.place c.want_at.ensures c.in-Key.is) c.args.at _ c.requires.place_in_bounds

pub put_line-requires-in-Text : goal.put_line-requires-in-Text
put_line-requires-in-Text c = rw c.count_at-n.ensures (line-room (field_is (tables_of c.args.rows.now c.args.letters.now [] []) c.args.place c.want_at.ensures c.in-Text.is) c.args.at _ c.requires.place_in_bounds)

pub put_integer-requires : goal.put_integer-requires
put_integer-requires c = rw c.count_at.ensures (field-integer c.args.rows.now c.requires.rows_value.0 c.args.place c.requires.place_value c.want_at.ensures c.in-Int.is, line-room (field_is (tables_of c.args.rows.now c.args.letters.now [] []) c.args.place c.want_at.ensures c.in-Int.is) c.args.at _ c.requires.place_in_bounds)

pub offset_bounds-rows-place : goal.offset_bounds-rows-place
offset_bounds-rows-place c = omega (arith, field-held c.args.rows.now c.requires.rows_value.0 c.args.place c.requires.place_value c.want_at.ensures)

pub bounds-rows-place : goal.bounds-rows-place
bounds-rows-place c = field-held c.args.rows.now c.requires.rows_value.0 c.args.place c.requires.place_value c.want_at.ensures

pub put_real-requires : goal.put_real-requires
put_real-requires c = real-asked _ (field-real c.args.rows.now c.requires.rows_value.0 c.args.place c.requires.place_value c.want_at.ensures c.in-Real.is) c.args.at _ (line-room (field_is (tables_of c.args.rows.now c.args.letters.now [] []) c.args.place c.want_at.ensures c.in-Real.is) c.args.at _ c.requires.place_in_bounds)

pub returns-in-Key : goal.returns-in-Key
returns-in-Key c = line-put (field_is (tables_of c.args.rows.now c.args.letters.now [] []) c.args.place c.want_at.ensures c.in-Key.is) c.put_line.ensures

pub returns-in-Text : goal.returns-in-Text
returns-in-Text c = line-put (field_is (tables_of c.args.rows.now c.args.letters.now [] []) c.args.place c.want_at.ensures c.in-Text.is) (rw c.count_at-n.ensures at c.put_line-in-Text.ensures)

pub returns-in-Int : goal.returns-in-Int
returns-in-Int c = line-put (field_is (tables_of c.args.rows.now c.args.letters.now [] []) c.args.place c.want_at.ensures c.in-Int.is) (rw c.count_at.ensures at c.put_integer.ensures)

pub returns-in-Real : goal.returns-in-Real
returns-in-Real c = line-put (field_is (tables_of c.args.rows.now c.args.letters.now [] []) c.args.place c.want_at.ensures c.in-Real.is) (real-put _ (field-real c.args.rows.now c.requires.rows_value.0 c.args.place c.requires.place_value c.want_at.ensures c.in-Real.is) c.put_real.ensures)
