-- `foot_figures` meets its contract: areas, and the difference of two printed figures. Assumes nothing.
use Rattle.sup.proofs.TotalWays.{foot-asks, foot-is}
use Rattle.sup.proofs.totalling.foot_figures.Goals as goal

pub overflow_sub-result : goal.overflow_sub-result
overflow_sub-result c = foot-asks _ c.args.figures.now _ c.ranges.total.sfits c.requires.1 _ c.sheet_confine.ensures c.sheet_confine.type_inv _ c.metres_of-whole.ensures _ c.metres_of-border.ensures

pub returns : goal.returns
returns c = foot-is _ c.args.figures.now _ c.ranges.total.sfits c.requires.1 _ c.sheet_confine.ensures c.sheet_confine.type_inv _ c.metres_of-whole.ensures _ c.metres_of-border.ensures _ c.net_in.ensures c.net_in.type_inv _ c.metres_of-parcels.ensures _ c.net_in-2.ensures c.net_in-2.type_inv _ c.metres_of-roads.ensures _ c.net_in-3.ensures c.net_in-3.type_inv _ c.metres_of-waters.ensures c.islands-1.given _ c.metres_of-insets.ensures
