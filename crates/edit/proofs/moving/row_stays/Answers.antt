-- `edit::row_stays` meets its contract: the ways are in `RowMoves`. Assumes nothing.
use mathlib.Core.Bool.{not}
use mathlib.Core.Path.{ap}
use native.Mathlib.Omega.{arith}
use mir.Facts.{to_z-of_z}
use Rattle.edit.proofs.RowMoves.{row-unplaced, row-first-off, row-single, row-second}
use Rattle.edit.proofs.moving.row_stays.Goals as goal

pub returns-then-not-has_position : goal.returns-then-not-has_position
returns-then-not-has_position c = row-unplaced _ _ _ _ c.count_at-kind.ensures _ c.has_position.ensures (ap not c.if-not-has_position.true)

pub pair_stays-requires : goal.pair_stays-requires
pair_stays-requires c = (omega (arith, c.requires.0), rw (to_z-of_z c.ranges.dx) c.requires.1, rw (to_z-of_z c.ranges.dy) c.requires.2)

pub returns-then-not-pair_stays : goal.returns-then-not-pair_stays
returns-then-not-pair_stays c = row-first-off _ _ _ _ c.count_at-kind.ensures _ c.has_position.ensures (ap not c.if-not-has_position.false) c.ranges.dx c.ranges.dy _ c.pair_stays.ensures (ap not c.if-not-pair_stays.true)

pub returns-then-not-has_second : goal.returns-then-not-has_second
returns-then-not-has_second c = row-single _ _ _ _ c.count_at-kind.ensures _ c.has_position.ensures (ap not c.if-not-has_position.false) c.ranges.dx c.ranges.dy _ c.pair_stays.ensures (ap not c.if-not-pair_stays.false) _ c.has_second.ensures (ap not c.if-not-has_second.true)

pub pair_stays-requires-2 : goal.pair_stays-requires-2
pair_stays-requires-2 c = (omega (arith, c.requires.0), rw (to_z-of_z c.ranges.dx) c.requires.1, rw (to_z-of_z c.ranges.dy) c.requires.2)

pub returns : goal.returns
returns c = row-second _ _ _ _ c.count_at-kind.ensures _ c.has_position.ensures (ap not c.if-not-has_position.false) c.ranges.dx c.ranges.dy _ c.pair_stays.ensures (ap not c.if-not-pair_stays.false) _ c.has_second.ensures (ap not c.if-not-has_second.false) _ c.pair_stays-2.ensures
