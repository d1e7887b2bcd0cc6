-- `quick::three` meets its contract. Assumes nothing.
use Rattle.quick.proofs.Twelve.{three-are}
use Rattle.quick.proofs.aligned.three.Goals as goal

pub returns : goal.returns
returns c = three-are c.args.c.now c.args.v c.requires.0 c.figure-x.result c.figure-y.result c.figure-z.result c.figure-x.ensures c.if-x-gt9.false c.figure-y.ensures c.if-y-gt9.false c.figure-z.ensures c.if-z-gt9.false
