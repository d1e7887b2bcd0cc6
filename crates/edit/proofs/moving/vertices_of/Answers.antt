-- `edit::vertices_of` meets its contract: the loop's invariant is `Counting`. Assumes nothing.
use native.Mathlib.Omega.{arith}
use Rattle.edit.proofs.PointMoves.{counting-none, counting-all, counting-in, counting-fits, counting-on}
use Rattle.edit.proofs.moving.vertices_of.Goals as goal

pub loop-k-init : goal.loop-k-init
loop-k-init c = counting-none _ _

pub slice_bounds-count_at-count : goal.slice_bounds-count_at-count
slice_bounds-count_at-count c = counting-in _ _ _ _ _ c.loop-k.invariant c.loop-k-test.true c.requires.0

pub slice_bounds-count_at-start : goal.slice_bounds-count_at-start
slice_bounds-count_at-start c = counting-in _ _ _ _ _ c.loop-k.invariant c.loop-k-test.true c.requires.0

pub overflow_add-v : goal.overflow_add-v
overflow_add-v c = omega (arith, counting-fits _ _ _ _ _ c.loop-k.invariant c.loop-k-test.true c.requires.0 _ c.count_at-v.ensures c.requires.1)

pub overflow_add-r : goal.overflow_add-r
overflow_add-r c = omega (arith, c.loop-k.invariant.at, c.loop-k-test.true, c.requires.0)

pub loop-k-smaller : goal.loop-k-smaller
loop-k-smaller c = let h = c.loop-k-test.true in omega arith

pub loop-k-preserved : goal.loop-k-preserved
loop-k-preserved c = counting-on _ _ _ _ _ c.loop-k.invariant c.loop-k-test.true c.requires.0 _ c.count_at-v.ensures

pub returns : goal.returns
returns c = counting-all _ _ _ _ _ c.loop-k.invariant c.loop-k-test.false
