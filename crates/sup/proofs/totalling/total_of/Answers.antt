-- `total_of` meets its contract: the high parts are judged first, so that the sum of both fits. Assumes nothing.
use Rattle.sup.proofs.TotalWays.{high-over, high-under, product-asks, total-asks, found-over, found-under, found_within}
use Rattle.sup.proofs.totalling.total_of.Goals as goal
use Rattle.sup.proofs.totalling.total_of.Goals.{then-high-gt-HIGH_MOST-via-then-high-gt-HIGH_MOST, then-high-gt-HIGH_MOST-via-else-high-gt-HIGH_MOST+then-high, then-total-gt-LIMIT-via-then-total-gt-LIMIT, then-total-gt-LIMIT-via-else-total-gt-LIMIT+then-total}

pub returns-then-high-gt-HIGH_MOST : goal.returns-then-high-gt-HIGH_MOST
returns-then-high-gt-HIGH_MOST c =
    elim c.then-high-gt-HIGH_MOST.branch [
      | then-high-gt-HIGH_MOST-via-then-high-gt-HIGH_MOST w ↦ high-over _ _ _ _ c.ranges.a c.ranges.b c.ranges.c c.ranges.d _ c.high_sum-high.ensures c.high_sum-high.type_inv w.if-high-gt-HIGH_MOST.true
      | then-high-gt-HIGH_MOST-via-else-high-gt-HIGH_MOST+then-high w ↦ high-under _ _ _ _ c.ranges.a c.ranges.b c.ranges.c c.ranges.d _ c.high_sum-high.ensures c.high_sum-high.type_inv w.if-high.true
    ]

pub overflow_mul-total : goal.overflow_mul-total
overflow_mul-total c = product-asks _ _ _ _ c.ranges.a c.ranges.b c.ranges.c c.ranges.d _ c.high_sum-high.ensures c.high_sum-high.type_inv c.if-high-gt-HIGH_MOST.false c.if-high.false

pub overflow_add-total : goal.overflow_add-total
overflow_add-total c = total-asks _ _ _ _ c.ranges.a c.ranges.b c.ranges.c c.ranges.d _ c.high_sum-high.ensures c.high_sum-high.type_inv c.if-high-gt-HIGH_MOST.false c.if-high.false _ c.low_sum.ensures

pub returns-then-total-gt-LIMIT : goal.returns-then-total-gt-LIMIT
returns-then-total-gt-LIMIT c =
    elim c.then-total-gt-LIMIT.branch [
      | then-total-gt-LIMIT-via-then-total-gt-LIMIT w ↦ found-over _ _ _ _ c.ranges.a c.ranges.b c.ranges.c c.ranges.d _ c.high_sum-high.ensures c.high_sum-high.type_inv c.if-high-gt-HIGH_MOST.false c.if-high.false _ c.low_sum.ensures w.if-total-gt-LIMIT.true
      | then-total-gt-LIMIT-via-else-total-gt-LIMIT+then-total w ↦ found-under _ _ _ _ c.ranges.a c.ranges.b c.ranges.c c.ranges.d _ c.high_sum-high.ensures c.high_sum-high.type_inv c.if-high-gt-HIGH_MOST.false c.if-high.false _ c.low_sum.ensures w.if-total-gt-LIMIT.false w.if-total.true
    ]

pub returns : goal.returns
returns c = found_within _ _ _ _ c.ranges.a c.ranges.b c.ranges.c c.ranges.d _ c.high_sum-high.ensures c.high_sum-high.type_inv c.if-high-gt-HIGH_MOST.false c.if-high.false _ c.low_sum.ensures c.if-total-gt-LIMIT.false c.if-total.false
