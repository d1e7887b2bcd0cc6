-- `quick::padded` meets its contract. Assumes nothing.
use Rattle.quick.proofs.Places.{padded-is}
use Rattle.quick.proofs.padded.Goals as goal

pub returns : goal.returns
returns c = padded-is c.args.mode c.args.s.now c.args.at c.ending-w.result c.ending-w.ensures.ends c.if-w-eq0.false c.neat-value.result c.neat-value.ensures c.if-value-eq0.false
