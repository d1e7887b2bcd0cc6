-- `put_opening` meets its contract: SI or NO. Assumes nothing.
use Rattle.cml.proofs.PairWays.{put_same}
use Rattle.cml.proofs.LineWays.{opening-out, opening-in}
use Rattle.cml.proofs.put_opening.Goals as goal

pub returns-then-outside-eq1 : goal.returns-then-outside-eq1
returns-then-outside-eq1 c = put_same (opening-out _ c.if-outside-eq1.true) c.requires c.put_bytes.ensures

pub returns : goal.returns
returns c = put_same (opening-in _ c.if-outside-eq1.false) c.requires c.put_bytes-2.ensures
