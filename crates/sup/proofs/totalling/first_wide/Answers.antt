-- `first_wide` meets its contract. Invariant: those before `i` are narrow. Assumes nothing.
use mathlib.Core.Bool.{not}
use mathlib.Core.Path.{ap}
use native.Mathlib.Omega.{arith}
use Rattle.sup.proofs.TotalWays.{wide-start, wide-none, wide_step, wide-stop}
use Rattle.sup.proofs.totalling.first_wide.Goals as goal

pub loop-i-init : goal.loop-i-init
loop-i-init c = wide-start _ _

pub offset_bounds-figures-i : goal.offset_bounds-figures-i
offset_bounds-figures-i c = omega arith

pub bounds-figures-i : goal.bounds-figures-i
bounds-figures-i c = omega arith

pub overflow_add-result : goal.overflow_add-result
overflow_add-result c = omega arith

pub returns-then-not-is_narrow : goal.returns-then-not-is_narrow
returns-then-not-is_narrow c = wide-stop _ _ _ c.loop-i.invariant _ c.loop-i-test.true c.is_narrow-arg-1.given c.is_narrow.ensures (ap not c.if-not-is_narrow.true)

pub loop-i-preserved : goal.loop-i-preserved
loop-i-preserved c = wide_step _ _ _ c.loop-i.invariant _ c.loop-i-test.true c.is_narrow-arg-1.given c.is_narrow.ensures (ap not c.if-not-is_narrow.false)

pub returns : goal.returns
returns c = wide-none _ _ _ c.loop-i.invariant c.loop-i-test.false
