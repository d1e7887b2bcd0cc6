-- `quick::body` meets its contract. Assumes nothing.
use Rattle.quick.proofs.Leading.{body_is}
use Rattle.std.proofs.Common.{arith}
use Rattle.quick.proofs.unpadded.body.Goals as goal

pub returns : goal.returns
returns c = body_is c.args.u.now c.lead-n.result.start c.lead-n.result.value c.figure-x.result c.figure-y.result c.figure-z.result c.lead-n.ensures c.if-n-lt1.false (omega (arith, c.lead-n.ensures.within, c.if-u-lt13.false)) c.if-u-n-ne46.false c.figure-x.ensures c.if-x-gt9.false c.figure-y.ensures c.if-y-gt9.false c.figure-z.ensures c.if-z-gt9.false
