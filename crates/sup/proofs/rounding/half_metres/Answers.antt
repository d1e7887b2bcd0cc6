-- `half_metres` meets its contract: below zero the floor is that of the opposite, less one. Assumes nothing.
use Rattle.sup.proofs.RoundWays.{less-asks, quot-asks, back-asks, below-is, whole-asks, above-is}
use Rattle.sup.proofs.rounding.half_metres.Goals as goal

pub overflow_sub-result : goal.overflow_sub-result
overflow_sub-result c = less-asks _ c.ranges.doubled c.if-doubled-lt0.true

pub nonzero_div-result : goal.nonzero_div-result
nonzero_div-result c = quot-asks _ c.ranges.doubled c.if-doubled-lt0.true

pub overflow_sub-result-then-doubled-lt0 : goal.overflow_sub-result-then-doubled-lt0
overflow_sub-result-then-doubled-lt0 c = back-asks _ c.ranges.doubled c.if-doubled-lt0.true

pub returns-then-doubled-lt0 : goal.returns-then-doubled-lt0
returns-then-doubled-lt0 c = below-is _ c.ranges.doubled c.if-doubled-lt0.true

pub nonzero_div-result-2 : goal.nonzero_div-result-2
nonzero_div-result-2 c = whole-asks _ c.ranges.doubled c.if-doubled-lt0.false

pub returns : goal.returns
returns c = above-is _ c.ranges.doubled c.if-doubled-lt0.false
