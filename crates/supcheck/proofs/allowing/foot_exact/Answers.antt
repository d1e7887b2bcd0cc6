-- `foot_exact` meets its contract: four areas, the two totals, and the balance. Assumes nothing.
use Rattle.supcheck.proofs.AllowingWays.{balance-asks, foot-exact-is}
use Rattle.supcheck.proofs.allowing.foot_exact.Goals as goal

pub overflow_mul-result : goal.overflow_mul-result
overflow_mul-result c = balance-asks _ c.ranges.balance c.requires.1

pub returns : goal.returns
returns c = foot-exact-is _ c.ranges.balance c.requires.1 c.args.areas.now _ c.ranges.total.sfits c.parcels-1.given c.roads-1.given c.waters-1.given c.insets-1.given c.confine-1.given
