-- `head_allowed` meets its contract. Assumes nothing.
use Rattle.supcheck.proofs.AllowingWays.{head-allowed-is}
use Rattle.supcheck.proofs.allowing.head_allowed.Goals as goal

pub returns : goal.returns
returns c = head-allowed-is c.args.figures.now c.buildings-1.given
