-- `reader::slow_integer` meets its contract. Assumes nothing.
use Rattle.reader.proofs.HeadWays.{integer-slow, some_of}
use Rattle.reader.proofs.heads.slow_integer.Goals as goal

pub returns : goal.returns
returns c = integer-slow c.args.mode c.args.src.now c.args.at _ c.size_of-n.ensures (some_of _ c.if-width-eq0.false)
