-- `edit::close_numbers` meets its contract: the loop's invariant is `Closing`. Assumes nothing.
use native.Mathlib.Omega.{arith}
use lib.IntN.{pos}
use Rattle.laws.proofs.Bits.{back}
use Rattle.edit.proofs.CloseWays.{closing-none, closing-there, closing-here, closing-on, closing-length, closing-all}
use Rattle.edit.proofs.removing.close_numbers.Goals as goal

pub overflow_sub-stop : goal.overflow_sub-stop
overflow_sub-stop c = omega (arith, c.requires.0)

pub loop-i-init : goal.loop-i-init
loop-i-init c = closing-none _ _ _ _ c.requires.0 c.requires.1

pub overflow_add-s : goal.overflow_add-s
overflow_add-s c = let h = closing-there _ _ _ _ c.requires.0 c.requires.1 _ _ c.loop-i.invariant c.loop-i-test.true (pos 0) in omega arith

pub slice_copy_out-s : goal.slice_copy_out-s
slice_copy_out-s c = closing-there _ _ _ _ c.requires.0 c.requires.1 _ _ c.loop-i.invariant c.loop-i-test.true (pos 0)

pub bounds-s-i : goal.bounds-s-i
bounds-s-i c = closing-here _ _ _ _ c.requires.0 c.requires.1 _ _ c.loop-i.invariant c.loop-i-test.true (pos 0)

pub overflow_add-i : goal.overflow_add-i
overflow_add-i c = let h = c.loop-i-test.true in omega arith

pub loop-i-smaller : goal.loop-i-smaller
loop-i-smaller c = let h = c.loop-i-test.true in omega arith

pub loop-i-preserved : goal.loop-i-preserved
loop-i-preserved c = closing-on _ _ _ _ c.requires.0 c.requires.1 _ _ c.loop-i.invariant c.loop-i-test.true (pos 0) _ (back _ c.s-1.given)

pub shape_of-s : goal.shape_of-s
shape_of-s c = closing-length _ _ _ _ c.requires.0 c.requires.1 _ _ c.loop-i.invariant

pub returns : goal.returns
returns c = closing-all _ _ _ _ c.requires.0 c.requires.1 _ _ c.loop-i.invariant c.loop-i-test.false
