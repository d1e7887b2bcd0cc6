-- `count_exact` meets its contract: a count that is cut off stays small. Assumes nothing.
use Rattle.supcheck.proofs.AllowingWays.{exact-asks, exact-is}
use Rattle.supcheck.proofs.allowing.count_exact.Goals as goal

pub overflow_mul-result : goal.overflow_mul-result
overflow_mul-result c = exact-asks _ c.requires _ c.lower.ensures

pub returns : goal.returns
returns c = exact-is _ c.requires _ c.lower.ensures
