-- `edit::pair_stays` meets its contract: the ways are in `RowMoves`. Assumes nothing.
use mathlib.Core.Bool.{not}
use mathlib.Core.Path.{ap}
use native.Mathlib.Omega.{arith}
use mir.Facts.{to_z-of_z}
use Rattle.edit.proofs.RowMoves.{pair-x-off, pair-y}
use Rattle.edit.proofs.moving.pair_stays.Goals as goal

pub stays_at-requires : goal.stays_at-requires
stays_at-requires c = (omega (arith, c.requires.0), rw (to_z-of_z c.ranges.dx) c.requires.1)

pub returns-then-not-stays_at : goal.returns-then-not-stays_at
returns-then-not-stays_at c = pair-x-off _ _ _ _ c.ranges.dx _ c.stays_at.ensures (ap not c.if-not-stays_at.true)

pub overflow_add-at : goal.overflow_add-at
overflow_add-at c = omega (arith, c.requires.0)

pub stays_at-requires-2 : goal.stays_at-requires-2
stays_at-requires-2 c = (c.requires.0, rw (to_z-of_z c.ranges.dy) c.requires.2)

pub returns : goal.returns
returns c = pair-y _ _ _ _ c.ranges.dx _ c.stays_at.ensures (ap not c.if-not-stays_at.false) c.ranges.dy _ c.stays_at-2.ensures
