-- `edit::is_part` meets its contract: the ways are in `PartWays`. Assumes nothing.
use Rattle.edit.proofs.PartWays.{part-high, part_low, part_in}
use Rattle.edit.proofs.moving.is_part.Goals as goal

pub returns-then-by-gt-MOVE_MOST : goal.returns-then-by-gt-MOVE_MOST
returns-then-by-gt-MOVE_MOST c = part-high _ c.ranges.by c.if-by-gt-MOVE_MOST.true

pub returns-then-by : goal.returns-then-by
returns-then-by c = part_low _ c.ranges.by c.if-by.true

pub returns-else-by : goal.returns-else-by
returns-else-by c = part_in _ c.ranges.by c.if-by-gt-MOVE_MOST.false c.if-by.false
