-- `edit::shifted` meets its contract: the sum is a real, so it fits. Assumes nothing.
use Rattle.edit.proofs.PartWays.{sum_fits, sum_is}
use Rattle.edit.proofs.moving.shifted.Goals as goal

pub overflow_add-result : goal.overflow_add-result
overflow_add-result c = sum_fits _ _ c.ranges.z c.ranges.by c.requires

pub returns : goal.returns
returns c = sum_is _ _ c.ranges.z c.ranges.by c.requires
