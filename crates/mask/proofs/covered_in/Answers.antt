-- `mask::covered_in` meets its contract. Assumes nothing.
use Rattle.mask.proofs.CountWays.{count-on, count-over}
use native.Mathlib.Omega.{arith}
use native.Mathlib.Nat.{zero-add}
use mathlib.Core.Path.{sym}
use Rattle.mask.proofs.covered_in.Goals as goal

pub loop-row-init : goal.loop-row-init
loop-row-init c = (sym (zero-add _), omega arith)

pub overflow_add-n : goal.overflow_add-n
overflow_add-n c = let k = c.ones_of-n.ensures.1 in let l = c.loop-row.invariant in let h = c.loop-row-test.true in omega (arith, l.1, c.requires)

pub loop-row-preserved : goal.loop-row-preserved
loop-row-preserved c = let l = c.loop-row.invariant in (count-on _ _ _ l.0 c.loop-row-test.true _ c.ones_of-n.ensures.0, omega (arith, l.1, c.ones_of-n.ensures.1))

pub returns : goal.returns
returns c = count-over _ _ _ c.loop-row.invariant.0 c.loop-row-test.false
