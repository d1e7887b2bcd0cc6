-- `low_sum` meets its contract: four low parts are too small to overflow. Assumes nothing.
use lib.Dec.{lit<}
use Rattle.sup.specs.Totals.{low_sum}
use Rattle.sup.proofs.TotalWays.{low-holds, part-asks, four-first, four-second, four-third, four_is}
use Rattle.sup.proofs.totalling.low_sum.Goals as goal

pub nonzero_rem-result : goal.nonzero_rem-result
nonzero_rem-result c = part-asks _ c.ranges.a

pub nonzero_rem-result-2 : goal.nonzero_rem-result-2
nonzero_rem-result-2 c = part-asks _ c.ranges.b

pub overflow_add-result : goal.overflow_add-result
overflow_add-result c = four-first (low-holds _ c.ranges.a) (low-holds _ c.ranges.b) (low-holds _ c.ranges.c) (low-holds _ c.ranges.d) (lit< tt)

pub nonzero_rem-result-3 : goal.nonzero_rem-result-3
nonzero_rem-result-3 c = part-asks _ c.ranges.c

pub overflow_add-result-2 : goal.overflow_add-result-2
overflow_add-result-2 c = four-second (low-holds _ c.ranges.a) (low-holds _ c.ranges.b) (low-holds _ c.ranges.c) (low-holds _ c.ranges.d) (lit< tt)

pub nonzero_rem-result-4 : goal.nonzero_rem-result-4
nonzero_rem-result-4 c = part-asks _ c.ranges.d

pub overflow_add-result-3 : goal.overflow_add-result-3
overflow_add-result-3 c = four-third (low-holds _ c.ranges.a) (low-holds _ c.ranges.b) (low-holds _ c.ranges.c) (low-holds _ c.ranges.d) (lit< tt)

pub returns : goal.returns
unfolding low_sum
returns c = four_is (low-holds _ c.ranges.a) (low-holds _ c.ranges.b) (low-holds _ c.ranges.c) (low-holds _ c.ranges.d) (lit< tt)
