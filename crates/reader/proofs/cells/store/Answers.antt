-- `store` meets its contract: the room that it requires, and the tables that it leaves, are read by the state. Assumes nothing.
use native.Mathlib.Omega.{arith}
use mathlib.Core.Path.{refl}
use borrow.Author.Tests.{eq-eqb, ne_eqb}
use Rattle.reader.proofs.cells.store.Goals as goal

pub overflow_mul-a : goal.overflow_mul-a
overflow_mul-a c = omega (arith, rw c.in-Due.is at c.requires.put_room)

pub put_row-requires : goal.put_row-requires
put_row-requires c = (rw c.in-Due.is at c.requires.put_room, c.requires.t_le_token_most.0, c.requires.t_le_token_most.2)

pub overflow_sub-a : goal.overflow_sub-a
overflow_sub-a c = omega (arith, rw c.in-Field.is at c.requires.put_room)

pub overflow_mul-a-in-Field : goal.overflow_mul-a-in-Field
overflow_mul-a-in-Field c = omega (arith, rw c.in-Field.is at c.requires.put_room)

pub overflow_add-a : goal.overflow_add-a
overflow_add-a c = omega (arith, rw c.in-Field.is at c.requires.put_room)

pub put_field-requires : goal.put_field-requires
put_field-requires c = omega (arith, rw c.in-Field.is at c.requires.put_room, c.requires.t_le_token_most.0)

pub put_word-requires : goal.put_word-requires
put_word-requires c = (rw (c.in-Field.is, eq-eqb _ _ c.if-place-eq-LETTERS_PLACE.true) at c.requires.put_room).3

pub put_island-requires : goal.put_island-requires
put_island-requires c = omega (arith, rw c.in-Island.is at c.requires.put_room, rw c.in-Island.is at c.requires.t_le_token_most.1)

pub overflow_mul-a-in-X : goal.overflow_mul-a-in-X
overflow_mul-a-in-X c = omega (arith, rw c.in-X.is at c.requires.put_room)

pub put_real-requires : goal.put_real-requires
put_real-requires c = omega (arith, rw c.in-X.is at c.requires.put_room, c.requires.t_le_token_most.0)

pub overflow_mul-a-in-Y : goal.overflow_mul-a-in-Y
overflow_mul-a-in-Y c = omega (arith, rw c.in-Y.is at c.requires.put_room)

pub overflow_add-a-in-Y : goal.overflow_add-a-in-Y
overflow_add-a-in-Y c = omega (arith, rw c.in-Y.is at c.requires.put_room)

pub put_real-requires-in-Y : goal.put_real-requires-in-Y
put_real-requires-in-Y c = omega (arith, rw c.in-Y.is at c.requires.put_room, c.requires.t_le_token_most.0)

pub returns-in-Due : goal.returns-in-Due
returns-in-Due c = rw c.in-Due.is (record { rows_after = c.put_row.ensures; letters_after = refl; islands_after = refl; points_after = refl })

pub returns-then-place-eq-LETTERS_PLACE : goal.returns-then-place-eq-LETTERS_PLACE
returns-then-place-eq-LETTERS_PLACE c = rw (c.in-Field.is, eq-eqb _ _ c.if-place-eq-LETTERS_PLACE.true) (record { rows_after = c.put_field.ensures; letters_after = c.put_word.ensures; islands_after = refl; points_after = refl })

pub returns-else-place-eq-LETTERS_PLACE : goal.returns-else-place-eq-LETTERS_PLACE
returns-else-place-eq-LETTERS_PLACE c = rw (c.in-Field.is, ne_eqb _ _ c.if-place-eq-LETTERS_PLACE.false) (record { rows_after = c.put_field.ensures; letters_after = refl; islands_after = refl; points_after = refl })

pub returns-in-Island : goal.returns-in-Island
returns-in-Island c = rw c.in-Island.is (record { rows_after = refl; letters_after = refl; islands_after = c.put_island.ensures; points_after = refl })

pub returns-in-X : goal.returns-in-X
returns-in-X c = rw c.in-X.is (record { rows_after = refl; letters_after = refl; islands_after = refl; points_after = c.put_real.ensures })

pub returns-in-Y : goal.returns-in-Y
returns-in-Y c = rw c.in-Y.is (record { rows_after = refl; letters_after = refl; islands_after = refl; points_after = c.put_real-in-Y.ensures })
