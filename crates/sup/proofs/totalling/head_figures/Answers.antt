-- `head_figures` meets its contract: five counts, and the area of the buildings. Assumes nothing.
use Rattle.sup.proofs.TotalWays.{head-is}
use Rattle.sup.proofs.totalling.head_figures.Goals as goal

pub returns : goal.returns
returns c = head-is c.args.figures.now c.buildings-1.given c.parcels-1.given c.roads-1.given c.waters-1.given c.insets-1.given _ c.net_in.ensures c.net_in.type_inv _ c.metres_of-area.ensures c.metres_of-area.type_inv
