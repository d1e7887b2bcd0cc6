-- `edit::move_rows` meets its contract: the loop's invariant is `Changing`. Assumes nothing.
use lib.IntN.{ℤ}
use mathlib.Core.Path.{◌≡◌}
use mathlib.Core.Bool.{true}
use native.Mathlib.Omega.{arith}
use Rattle.edit.specs.Moves.{row_stays, rows_stay, moved_rows}
use Rattle.edit.proofs.PartWays.{unbits, tobits}
use Rattle.edit.proofs.RowMoves.{length-row}
use Rattle.edit.proofs.RowLoops.{changing-none, changing-length, changing-all, changing-in, changing-wide, changing-passes, changing-on}
use Rattle.edit.proofs.moving.move_rows.Goals as goal

pub loop-k-init : goal.loop-k-init
loop-k-init c = changing-none _ _ _

pub slice_bounds-move_row-count : goal.slice_bounds-move_row-count
slice_bounds-move_row-count c = changing-in _ _ _ (length-row _ _) _ _ _ c.loop-k.invariant c.requires.0 c.loop-k-test.true

pub slice_bounds-move_row-start : goal.slice_bounds-move_row-start
slice_bounds-move_row-start c = changing-in _ _ _ (length-row _ _) _ _ _ c.loop-k.invariant c.requires.0 c.loop-k-test.true

pub move_row-requires : goal.move_row-requires
move_row-requires c = (changing-wide _ _ _ (length-row _ _) _ _ _ c.loop-k.invariant c.requires.0 c.loop-k-test.true, changing-passes _ _ _ (length-row _ _) _ _ _ c.loop-k.invariant c.requires.0 c.loop-k-test.true (row_stays _ _) (tobits (λ (x y : ℤ). rows_stay x y c.args.count c.args.rows.now ≡ true) c.ranges.dx c.ranges.dy c.requires.1))

pub overflow_add-r : goal.overflow_add-r
overflow_add-r c = omega (arith, c.loop-k.invariant.at, c.loop-k-test.true, c.requires.0)

pub loop-k-smaller : goal.loop-k-smaller
loop-k-smaller c = let h = c.loop-k-test.true in omega arith

pub loop-k-preserved : goal.loop-k-preserved
loop-k-preserved c = changing-on _ _ _ (length-row _ _) _ _ _ c.loop-k.invariant c.requires.0 c.loop-k-test.true _ c.move_row.ensures

pub shape_of-rows : goal.shape_of-rows
shape_of-rows c = changing-length _ _ _ (length-row _ _) _ _ _ c.loop-k.invariant c.requires.0

pub returns : goal.returns
returns c = unbits (λ (x y : ℤ). c.loop-k.rows ≡ moved_rows x y c.args.count c.args.rows.now) c.ranges.dx c.ranges.dy (changing-all _ _ _ (length-row _ _) _ _ _ c.loop-k.invariant c.requires.0 c.loop-k-test.false)
