-- `edit::rows_stay` meets its contract: the loop's invariant is `Testing`. Assumes nothing.
use lib.IntN.{ℤ}
use mir.Facts.{to_z-of_z}
use mathlib.Core.Path.{◌≡◌, ap}
use mathlib.Core.Bool.{true, false, not}
use native.Mathlib.Omega.{arith}
use Rattle.edit.specs.Moves.{rows_stay}
use Rattle.edit.proofs.PartWays.{unbits}
use Rattle.edit.proofs.RowLoops.{testing-none, testing-all, testing-not, testing-on, row_in, row-there}
use Rattle.edit.proofs.moving.rows_stay.Goals as goal

pub loop-k-init : goal.loop-k-init
loop-k-init c = testing-none _ _ _

pub slice_bounds-row_stays-count : goal.slice_bounds-row_stays-count
slice_bounds-row_stays-count c = row_in _ _ _ _ _ c.loop-k.invariant c.loop-k-test.true c.requires.0

pub slice_bounds-row_stays-start : goal.slice_bounds-row_stays-start
slice_bounds-row_stays-start c = row_in _ _ _ _ _ c.loop-k.invariant c.loop-k-test.true c.requires.0

pub row_stays-requires : goal.row_stays-requires
row_stays-requires c = (row-there _ _ _ _ _ c.loop-k.invariant c.loop-k-test.true c.requires.0, rw (to_z-of_z c.ranges.dx) c.requires.1, rw (to_z-of_z c.ranges.dy) c.requires.2)

pub returns-then-not-row_stays : goal.returns-then-not-row_stays
returns-then-not-row_stays c = unbits (λ (x y : ℤ). false ≡ rows_stay x y c.args.count c.args.rows.now) c.ranges.dx c.ranges.dy (testing-not _ _ _ _ _ c.loop-k.invariant c.loop-k-test.true c.requires.0 _ c.row_stays.ensures (ap not c.if-not-row_stays.true))

pub overflow_add-r : goal.overflow_add-r
overflow_add-r c = omega (arith, c.loop-k.invariant.at, c.loop-k-test.true, c.requires.0)

pub loop-k-smaller : goal.loop-k-smaller
loop-k-smaller c = let h = c.loop-k-test.true in omega arith

pub loop-k-preserved : goal.loop-k-preserved
loop-k-preserved c = testing-on _ _ _ _ _ c.loop-k.invariant c.loop-k-test.true c.requires.0 _ c.row_stays.ensures (ap not c.if-not-row_stays.false)

pub returns : goal.returns
returns c = unbits (λ (x y : ℤ). true ≡ rows_stay x y c.args.count c.args.rows.now) c.ranges.dx c.ranges.dy (testing-all _ _ _ _ _ c.loop-k.invariant c.loop-k-test.false)
