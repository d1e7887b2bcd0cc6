-- `put_figures` meets its contract: the lines before `i` have their figures. Assumes nothing.
use native.Mathlib.Omega.{arith}
use Rattle.sup.proofs.RawWays.{figuring-start, figuring-in, figuring-on, figuring-end}
use Rattle.sup.proofs.raw.put_figures.Goals as goal

pub loop-i-init : goal.loop-i-init
loop-i-init c = figuring-start _

pub put_figured-requires : goal.put_figured-requires
put_figured-requires c = figuring-in c.loop-i.invariant c.loop-i-test.true

pub loop-i-preserved : goal.loop-i-preserved
loop-i-preserved c = figuring-on c.loop-i.invariant c.loop-i-test.true c.put_figured.ensures

pub shape_of-s : goal.shape_of-s
shape_of-s c = c.loop-i.invariant.size

pub returns : goal.returns
returns c = figuring-end c.loop-i.invariant (omega (arith, c.loop-i-test.false))
