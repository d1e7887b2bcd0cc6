-- `edit::move_row` meets its contract: the ways are in `RowMoves`. Assumes nothing.
use mathlib.Core.Bool.{not}
use mathlib.Core.Path.{ap}
use Rattle.edit.proofs.RowMoves.{move-none, first-asks, move-first, second-asks, move-both}
use Rattle.edit.proofs.moving.move_row.Goals as goal

pub returns-then-not-has_position : goal.returns-then-not-has_position
returns-then-not-has_position c = move-none _ _ _ c.requires.0 c.requires.1 _ c.count_at-kind.ensures _ c.has_position.ensures (ap not c.if-not-has_position.true)

pub shift_pair-requires : goal.shift_pair-requires
shift_pair-requires c = first-asks _ _ _ c.requires.0 c.requires.1 _ c.count_at-kind.ensures _ c.has_position.ensures (ap not c.if-not-has_position.false) c.ranges.dx c.ranges.dy

pub returns-then-not-has_second : goal.returns-then-not-has_second
returns-then-not-has_second c = move-first _ _ _ c.requires.0 c.requires.1 _ c.count_at-kind.ensures _ c.has_position.ensures (ap not c.if-not-has_position.false) c.ranges.dx c.ranges.dy _ c.shift_pair.ensures _ c.has_second.ensures (ap not c.if-not-has_second.true)

pub shift_pair-requires-2 : goal.shift_pair-requires-2
shift_pair-requires-2 c = second-asks _ _ _ c.requires.0 c.requires.1 _ c.count_at-kind.ensures _ c.has_position.ensures (ap not c.if-not-has_position.false) c.ranges.dx c.ranges.dy _ c.shift_pair.ensures _ c.has_second.ensures (ap not c.if-not-has_second.false)

pub returns : goal.returns
returns c = move-both _ _ _ c.requires.0 c.requires.1 _ c.count_at-kind.ensures _ c.has_position.ensures (ap not c.if-not-has_position.false) c.ranges.dx c.ranges.dy _ c.shift_pair.ensures _ c.has_second.ensures (ap not c.if-not-has_second.false) _ c.shift_pair-2.ensures
