-- `foot_allowed` meets its contract. Assumes nothing.
use Rattle.supcheck.proofs.AllowingWays.{foot-allowed-is}
use Rattle.supcheck.proofs.allowing.foot_allowed.Goals as goal

pub returns : goal.returns
returns c = foot-allowed-is _ c.args.figures.now c.parcels-1.given c.roads-1.given c.waters-1.given c.insets-1.given _ c.parts_allowed-parts.ensures c.parts_allowed-parts.type_inv _ c.confine_allowed-confine.ensures c.confine_allowed-confine.type_inv
