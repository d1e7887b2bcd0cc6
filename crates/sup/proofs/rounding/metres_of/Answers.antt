-- `metres_of` meets its contract: by halves. Assumes nothing.
use Rattle.sup.proofs.RoundWays.{half-asks, metres-is}
use Rattle.sup.proofs.rounding.metres_of.Goals as goal

pub overflow_add-result : goal.overflow_add-result
overflow_add-result c = half-asks _ _ c.ranges.doubled c.half_metres.ensures

pub returns : goal.returns
returns c = metres-is _ _ c.ranges.doubled c.half_metres.ensures
