-- `high_sum` meets its contract: four high parts are too small to overflow. Assumes nothing.
use lib.Dec.{lit<}
use Rattle.sup.specs.Totals.{high_sum}
use Rattle.sup.proofs.TotalWays.{high-holds, part-asks, four-first, four-second, four-third, four_is}
use Rattle.sup.proofs.totalling.high_sum.Goals as goal

pub nonzero_div-result : goal.nonzero_div-result
nonzero_div-result c = part-asks _ c.ranges.a

pub nonzero_div-result-2 : goal.nonzero_div-result-2
nonzero_div-result-2 c = part-asks _ c.ranges.b

pub overflow_add-result : goal.overflow_add-result
overflow_add-result c = four-first (high-holds _ c.ranges.a) (high-holds _ c.ranges.b) (high-holds _ c.ranges.c) (high-holds _ c.ranges.d) (lit< tt)

pub nonzero_div-result-3 : goal.nonzero_div-result-3
nonzero_div-result-3 c = part-asks _ c.ranges.c

pub overflow_add-result-2 : goal.overflow_add-result-2
overflow_add-result-2 c = four-second (high-holds _ c.ranges.a) (high-holds _ c.ranges.b) (high-holds _ c.ranges.c) (high-holds _ c.ranges.d) (lit< tt)

pub nonzero_div-result-4 : goal.nonzero_div-result-4
nonzero_div-result-4 c = part-asks _ c.ranges.d

pub overflow_add-result-3 : goal.overflow_add-result-3
overflow_add-result-3 c = four-third (high-holds _ c.ranges.a) (high-holds _ c.ranges.b) (high-holds _ c.ranges.c) (high-holds _ c.ranges.d) (lit< tt)

pub returns : goal.returns
unfolding high_sum
returns c = four_is (high-holds _ c.ranges.a) (high-holds _ c.ranges.b) (high-holds _ c.ranges.c) (high-holds _ c.ranges.d) (lit< tt)
