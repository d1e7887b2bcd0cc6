-- `line_at` meets its contract: k bytes of the line are copied. Assumes nothing.
use mathlib.Core.Path.{refl}
use native.Mathlib.Omega.{arith}
use Rattle.sorting.proofs.CodeWays.{copied-start, copied_on, copied-end}
use Rattle.sorting.proofs.line_at.Goals as goal

pub overflow_mul-at : goal.overflow_mul-at
overflow_mul-at c = omega (arith, c.requires)

pub loop-k-init : goal.loop-k-init
loop-k-init c = copied-start _ _ _ c.requires refl

pub overflow_add-line : goal.overflow_add-line
overflow_add-line c = omega (arith, c.loop-k.invariant.inside)

pub bounds-s-at : goal.bounds-s-at
bounds-s-at c = omega (arith, c.loop-k.invariant.inside, c.loop-k-test.true)

pub bounds-line-k : goal.bounds-line-k
bounds-line-k c = omega (arith, c.loop-k.invariant.size, c.loop-k-test.true)

pub loop-k-preserved : goal.loop-k-preserved
loop-k-preserved c = copied_on c.loop-k.invariant c.loop-k-test.true

pub returns : goal.returns
returns c = copied-end c.loop-k.invariant c.loop-k-test.false
