-- `raised` meets its contract: the sum fits, and is not below 0. Assumes nothing.
use Rattle.sup.proofs.RawWays.{raised-asks, raised-cast, raised_is}
use Rattle.sup.proofs.raw.raised.Goals as goal

pub overflow_add-result : goal.overflow_add-result
overflow_add-result c = raised-asks _ c.requires

pub overflow_cast-result : goal.overflow_cast-result
overflow_cast-result c = raised-cast _ c.requires

pub returns : goal.returns
returns c = raised_is _ c.requires
