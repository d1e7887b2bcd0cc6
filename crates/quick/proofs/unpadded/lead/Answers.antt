-- `quick::lead` meets its contract. Assumes nothing.
use Rattle.quick.proofs.Leading.{leads-start, leads-on}
use Rattle.std.proofs.Common.{arith}
use Rattle.quick.proofs.unpadded.lead.Goals as goal

pub loop-i-init : goal.loop-i-init
loop-i-init c = leads-start c.args.u.now

pub loop-i-preserved : goal.loop-i-preserved
loop-i-preserved c = leads-on c.args.u.now c.loop-i.i c.loop-i.value c.figure-b.result c.loop-i.invariant (omega (arith, c.loop-i-test.true, c.requires)) (omega (arith, c.loop-i-test.true)) c.figure-b.ensures c.if-b-gt9.false
