-- `edit::shift_pair` meets its contract: the ways are in `RowMoves`. Assumes nothing.
use mathlib.Core.Path.{◌∙◌, ap}
use native.Mathlib.Omega.{arith}
use lib.ListN.{length}
use Rattle.edit.proofs.RowMoves.{pair-x-real, pair-y-real, pair-done, length-shifted}
use Rattle.edit.proofs.moving.shift_pair.Goals as goal

pub shift_at-requires : goal.shift_at-requires
shift_at-requires c = pair-x-real _ _ _ _ c.ranges.dx c.ranges.dy c.requires.0 c.requires.1

pub overflow_add-at : goal.overflow_add-at
overflow_add-at c = omega (arith, c.requires.0)

pub shift_at-requires-2 : goal.shift_at-requires-2
shift_at-requires-2 c = pair-y-real _ _ _ _ c.ranges.dx c.ranges.dy c.requires.0 c.requires.1 _ c.shift_at.ensures

pub shape_of-s : goal.shape_of-s
shape_of-s c = ap length (pair-done _ _ _ _ c.ranges.dx c.ranges.dy c.requires.0 c.requires.1 _ c.shift_at.ensures _ c.shift_at-2.ensures) ∙ length-shifted _ _ _ _

pub returns : goal.returns
returns c = pair-done _ _ _ _ c.ranges.dx c.ranges.dy c.requires.0 c.requires.1 _ c.shift_at.ensures _ c.shift_at-2.ensures
