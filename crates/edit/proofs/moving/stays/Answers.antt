-- `edit::stays` meets its contract: the ways are in `PartWays`. Assumes nothing.
use Rattle.edit.proofs.PartWays.{low_fits, high_fits, stays-low, stays-high, stays-in}
use Rattle.edit.proofs.moving.stays.Goals as goal

pub overflow_sub-by : goal.overflow_sub-by
overflow_sub-by c = low_fits _ _ c.ranges.z c.ranges.by c.requires

pub returns-then-z-by : goal.returns-then-z-by
returns-then-z-by c = stays-low _ _ c.ranges.z c.ranges.by c.requires c.if-z-by.true

pub overflow_sub-by-2 : goal.overflow_sub-by-2
overflow_sub-by-2 c = high_fits _ _ c.ranges.z c.ranges.by c.requires

pub returns-then-z-by-2 : goal.returns-then-z-by-2
returns-then-z-by-2 c = stays-high _ _ c.ranges.z c.ranges.by c.requires c.if-z-by-2.true

pub returns-else-z-by-2 : goal.returns-else-z-by-2
returns-else-z-by-2 c = stays-in _ _ c.ranges.z c.ranges.by c.requires c.if-z-by.false c.if-z-by-2.false
