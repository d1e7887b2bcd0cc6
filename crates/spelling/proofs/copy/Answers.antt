-- `copy` meets its contract. So far the first `i` characters stand over what was there.
use native.Mathlib.Omega.{arith}
use Rattle.spelling.proofs.Ways.{copying-start, copying-step, copying-end, copying-length}
use Rattle.spelling.proofs.copy.Goals as goal

pub loop-i-init : goal.loop-i-init
loop-i-init c = copying-start _ _ c.requires

pub bounds-out-i : goal.bounds-out-i
bounds-out-i c = omega (arith, copying-length _ _ _ _ c.loop-i.invariant)

pub loop-i-preserved : goal.loop-i-preserved
loop-i-preserved c = copying-step _ _ _ _ c.loop-i.invariant c.loop-i-test.true

pub shape_of-out : goal.shape_of-out
shape_of-out c = copying-length _ _ _ _ c.loop-i.invariant

pub returns : goal.returns
returns c = copying-end _ _ _ _ c.loop-i.invariant c.loop-i-test.false
