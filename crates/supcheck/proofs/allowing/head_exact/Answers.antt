-- `head_exact` meets its contract: five counts, and the area of the buildings. Assumes nothing.
use Rattle.supcheck.proofs.AllowingWays.{count-asks, head-exact-is}
use Rattle.supcheck.proofs.allowing.head_exact.Goals as goal

pub count_exact-buildings-requires : goal.count_exact-buildings-requires
count_exact-buildings-requires c = count-asks c.args.figures.now c.requires.0 16 c.count_exact-arg-1.given

pub count_exact-parcels-requires : goal.count_exact-parcels-requires
count_exact-parcels-requires c = count-asks c.args.figures.now c.requires.0 20 c.count_exact-arg-2-1.given

pub count_exact-roads-requires : goal.count_exact-roads-requires
count_exact-roads-requires c = count-asks c.args.figures.now c.requires.0 8 c.count_exact-arg-3-1.given

pub count_exact-waters-requires : goal.count_exact-waters-requires
count_exact-waters-requires c = count-asks c.args.figures.now c.requires.0 12 c.count_exact-arg-4-1.given

pub count_exact-insets-requires : goal.count_exact-insets-requires
count_exact-insets-requires c = count-asks c.args.figures.now c.requires.0 2 c.count_exact-arg-5-1.given

pub returns : goal.returns
returns c = head-exact-is c.args.figures.now c.count_exact-arg-1.given c.count_exact-arg-2-1.given c.count_exact-arg-3-1.given c.count_exact-arg-4-1.given c.count_exact-arg-5-1.given _ c.count_exact-buildings.ensures c.count_exact-buildings.type_inv _ c.count_exact-parcels.ensures c.count_exact-parcels.type_inv _ c.count_exact-roads.ensures c.count_exact-roads.type_inv _ c.count_exact-waters.ensures c.count_exact-waters.type_inv _ c.count_exact-insets.ensures c.count_exact-insets.type_inv c.args.areas.now c.area-1.given
