-- `sheet_total` meets its contract: the four parts, or OTHER alone. Assumes nothing.
use Rattle.sup.proofs.TotalWays.{sheet-union, sheet-parts}
use Rattle.sup.proofs.totalling.sheet_total.Goals as goal

pub returns-then-kind-eq-UNION : goal.returns-then-kind-eq-UNION
returns-then-kind-eq-UNION c = sheet-union _ c.args.figures.now _ c.if-kind-eq-UNION.true _ c.net_in.ensures c.net_in.type_inv c.total_of.ensures

pub returns : goal.returns
returns c = sheet-parts _ c.args.figures.now _ c.if-kind-eq-UNION.false _ c.net_in-parcels.ensures c.net_in-parcels.type_inv _ c.net_in-roads.ensures c.net_in-roads.type_inv _ c.net_in-waters.ensures c.net_in-waters.type_inv c.insets-1.given c.total_of-2.ensures
