-- `edit::lower_at` meets its contract: one number is read and stored. Assumes nothing.
use native.Mathlib.Omega.{arith}
use lib.ListN.{get_or}
use lib.IntN.{pos}
use Rattle.edit.proofs.LowerWays.{lower-fits, lower-done}
use Rattle.edit.proofs.removing.lower_at.Goals as goal

pub slice_copy_out-rows : goal.slice_copy_out-rows
slice_copy_out-rows c = c.requires.0

pub overflow_cast-rows : goal.overflow_cast-rows
overflow_cast-rows c = omega (arith, c.requires.1)

pub overflow_sub-rows : goal.overflow_sub-rows
overflow_sub-rows c = lower-fits (get_or c.args.rows.now c.args.place (pos 0)) _ c.rows-1.given c.requires.1 c.requires.2

pub bounds-rows-place : goal.bounds-rows-place
bounds-rows-place c = c.requires.0

pub returns : goal.returns
returns c = lower-done c.args.rows.now c.args.place _ c.rows-1.given c.requires.1 c.requires.2
