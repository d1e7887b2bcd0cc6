-- `grid::past` meets its contract: the difference of two numbers that are near, and its double, fit. Assumes nothing.
use Rattle.grid.proofs.EdgeWays.{past_fits, past-twice, past_is}
use Rattle.grid.proofs.past.Goals as goal

pub overflow_sub-d : goal.overflow_sub-d
overflow_sub-d c = past_fits _ _ c.ranges.a c.ranges.b c.requires

pub overflow_add-result : goal.overflow_add-result
overflow_add-result c = past-twice _ _ c.ranges.a c.ranges.b c.requires

pub returns : goal.returns
returns c = past_is _ _ c.ranges.a c.ranges.b c.requires
