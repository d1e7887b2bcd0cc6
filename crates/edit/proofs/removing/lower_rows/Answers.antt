-- `edit::lower_rows` meets its contract: the loop's invariant is `Changing`. Assumes nothing.
use native.Mathlib.Omega.{arith}
use Rattle.edit.specs.Closing.{is_up}
use Rattle.edit.proofs.LowerWays.{fallen-wide}
use Rattle.edit.proofs.RowLoops.{changing-none, changing-length, changing-all, changing-in, changing-wide, changing-passes, changing-on}
use Rattle.edit.proofs.removing.lower_rows.Goals as goal

pub loop-k-init : goal.loop-k-init
loop-k-init c = changing-none _ _ _

pub slice_bounds-lower_row-count : goal.slice_bounds-lower_row-count
slice_bounds-lower_row-count c = changing-in _ _ _ (fallen-wide _) _ _ _ c.loop-k.invariant c.requires.0 c.loop-k-test.true

pub slice_bounds-lower_row-start : goal.slice_bounds-lower_row-start
slice_bounds-lower_row-start c = changing-in _ _ _ (fallen-wide _) _ _ _ c.loop-k.invariant c.requires.0 c.loop-k-test.true

pub lower_row-requires : goal.lower_row-requires
lower_row-requires c = (changing-wide _ _ _ (fallen-wide _) _ _ _ c.loop-k.invariant c.requires.0 c.loop-k-test.true, c.requires.1, c.requires.2, c.requires.3, changing-passes _ _ _ (fallen-wide _) _ _ _ c.loop-k.invariant c.requires.0 c.loop-k-test.true is_up c.requires.4)

pub overflow_add-r : goal.overflow_add-r
overflow_add-r c = omega (arith, c.loop-k.invariant.at, c.loop-k-test.true, c.requires.0)

pub loop-k-smaller : goal.loop-k-smaller
loop-k-smaller c = let h = c.loop-k-test.true in omega arith

pub loop-k-preserved : goal.loop-k-preserved
loop-k-preserved c = changing-on _ _ _ (fallen-wide _) _ _ _ c.loop-k.invariant c.requires.0 c.loop-k-test.true _ c.lower_row.ensures

pub shape_of-rows : goal.shape_of-rows
shape_of-rows c = changing-length _ _ _ (fallen-wide _) _ _ _ c.loop-k.invariant c.requires.0

pub returns : goal.returns
returns c = changing-all _ _ _ (fallen-wide _) _ _ _ c.loop-k.invariant c.requires.0 c.loop-k-test.false
