-- `mask::widths_from` meets its contract. Assumes nothing.
use native.Mathlib.Omega.{arith}
use Rattle.std.proofs.lemmas.Result.{err_from_is_err_and}
use Rattle.mask.proofs.WidthWays.{widths-over, widths-refused, widths-on, widths-room}
use Rattle.mask.proofs.widths_from.Goals as goal

pub returns-in_err-width_of : goal.returns-in_err-width_of
returns-in_err-width_of c =
    let p = err_from_is_err_and c.from_residual.result c.from_residual.ensures.1 in
    rw (p.1, p.2) (widths-refused _ _ _ _ _ c.loop-size.invariant c.loop-size-test.true _ c.from-n.ensures _ c.width_of.ensures _ (c.in_err-width_of.was))

pub overflow_add-at : goal.overflow_add-at
overflow_add-at c = omega (arith, widths-room _ _ _ _ _ c.loop-size.invariant c.loop-size-test.true _ c.from-n.ensures _ c.width_of.ensures (c.in_ok-width_of.was))

pub loop-size-preserved : goal.loop-size-preserved
loop-size-preserved c = widths-on _ _ _ _ _ c.loop-size.invariant c.loop-size-test.true _ c.from-n.ensures _ c.width_of.ensures (c.in_ok-width_of.was)

pub returns : goal.returns
returns c = widths-over _ _ _ _ _ c.loop-size.invariant c.loop-size-test.false
