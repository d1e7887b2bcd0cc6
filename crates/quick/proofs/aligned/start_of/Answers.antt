-- `quick::start_of` meets its contract. Assumes nothing.
use Rattle.std.proofs.Common.{refl, arith}
use Rattle.laws.specs.Lists.{all}
use Rattle.quick.proofs.Twelve.{start-on}
use Rattle.quick.proofs.aligned.start_of.Goals as goal

pub loop-i-init : goal.loop-i-init
unfolding all
loop-i-init c = refl

pub loop-i-preserved : goal.loop-i-preserved
loop-i-preserved c = start-on c.args.c.now c.loop-i.i c.requires (omega arith) c.loop-i.invariant c.figure.result (omega arith) c.figure.ensures c.if-figure-gt9.false
