-- `is_near` meets its contract: one answer for each side of the gap. Assumes nothing.
use Rattle.supline.proofs.NearWays.{quot-asks, gap-asks, more-asks, less-asks, past-asks, code-under-over, code-under-rest, code-gap-over, code-over-rest, code-no-rest}
use Rattle.supline.proofs.is_near.Goals as goal

pub nonzero_div-gap : goal.nonzero_div-gap
nonzero_div-gap c = quot-asks _ _ _ c.ranges.figure c.ranges.exact c.ranges.allowed c.requires

pub overflow_sub-gap : goal.overflow_sub-gap
overflow_sub-gap c = gap-asks _ _ _ c.ranges.figure c.ranges.exact c.ranges.allowed c.requires

pub nonzero_rem-rest : goal.nonzero_rem-rest
nonzero_rem-rest c = quot-asks _ _ _ c.ranges.figure c.ranges.exact c.ranges.allowed c.requires

pub overflow_add-gap : goal.overflow_add-gap
overflow_add-gap c = more-asks _ _ _ c.ranges.figure c.ranges.exact c.ranges.allowed c.requires

pub returns-then-gap-allowed : goal.returns-then-gap-allowed
returns-then-gap-allowed c = code-under-over _ _ _ c.ranges.figure c.ranges.exact c.ranges.allowed c.requires c.if-rest-lt0.true c.if-gap-allowed.true

pub overflow_sub-result : goal.overflow_sub-result
overflow_sub-result c = less-asks _ _ _ c.ranges.figure c.ranges.exact c.ranges.allowed c.requires

pub returns-then-rest-lt0 : goal.returns-then-rest-lt0
returns-then-rest-lt0 c = code-under-rest _ _ _ c.ranges.figure c.ranges.exact c.ranges.allowed c.requires c.if-rest-lt0.true c.if-gap-allowed.false

pub returns-then-gap-allowed-2 : goal.returns-then-gap-allowed-2
returns-then-gap-allowed-2 c = code-gap-over _ _ _ c.ranges.figure c.ranges.exact c.ranges.allowed c.requires c.if-rest-lt0.false c.if-gap-allowed-2.true

pub overflow_sub-result-then-rest-gt0 : goal.overflow_sub-result-then-rest-gt0
overflow_sub-result-then-rest-gt0 c = past-asks _ _ _ c.ranges.figure c.ranges.exact c.ranges.allowed c.requires

pub returns-then-rest-gt0 : goal.returns-then-rest-gt0
returns-then-rest-gt0 c = code-over-rest _ _ _ c.ranges.figure c.ranges.exact c.ranges.allowed c.requires c.if-rest-lt0.false c.if-gap-allowed-2.false c.if-rest-gt0.true

pub overflow_sub-result-2 : goal.overflow_sub-result-2
overflow_sub-result-2 c = less-asks _ _ _ c.ranges.figure c.ranges.exact c.ranges.allowed c.requires

pub returns : goal.returns
returns c = code-no-rest _ _ _ c.ranges.figure c.ranges.exact c.ranges.allowed c.requires c.if-rest-lt0.false c.if-gap-allowed-2.false c.if-rest-gt0.false
