-- `areas_in` meets its contract: four nets, the islands, CONFINE. Assumes nothing.
use Rattle.sup.proofs.TotalWays.{areas-are}
use Rattle.sup.proofs.exact.areas_in.Goals as goal

pub returns : goal.returns
returns c = areas-are _ c.args.figures.now _ c.net_in-buildings.ensures c.net_in-buildings.type_inv _ c.net_in-parcels.ensures c.net_in-parcels.type_inv _ c.net_in-roads.ensures c.net_in-roads.type_inv _ c.net_in-waters.ensures c.net_in-waters.type_inv c.insets-1.given _ c.sheet_confine-confine.ensures c.sheet_confine-confine.type_inv
