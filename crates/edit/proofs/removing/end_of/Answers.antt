-- `edit::end_of` meets its contract: no sum wraps, as its `requires` says. Assumes nothing.
use native.Mathlib.Omega.{arith}
use Rattle.edit.proofs.LowerWays.{end-letters, end-islands, end-points, end_is}
use Rattle.edit.proofs.removing.end_of.Goals as goal

pub overflow_sub-last : goal.overflow_sub-last
overflow_sub-last c = c.requires.0

pub overflow_mul-last : goal.overflow_mul-last
overflow_mul-last c = omega (arith, c.requires.0, c.requires.1)

pub offset_bounds-rows-last : goal.offset_bounds-rows-last
offset_bounds-rows-last c = omega (arith, c.requires.0, c.requires.1)

pub slice_bounds-own-count : goal.slice_bounds-own-count
slice_bounds-own-count c = omega (arith, c.requires.0, c.requires.1)

pub slice_bounds-own-start : goal.slice_bounds-own-start
slice_bounds-own-start c = omega (arith, c.requires.0, c.requires.1)

pub overflow_mul-result : goal.overflow_mul-result
overflow_mul-result c = omega (arith, c.requires.1)

pub overflow_add-result : goal.overflow_add-result
overflow_add-result c = omega (arith, end-letters _ _ c.requires.2 _ _ c.count_at.ensures c.count_at-2.ensures)

pub overflow_add-result-2 : goal.overflow_add-result-2
overflow_add-result-2 c = omega (arith, end-islands _ _ c.requires.2 _ _ c.count_at-3.ensures c.count_at-4.ensures)

pub overflow_add-result-3 : goal.overflow_add-result-3
overflow_add-result-3 c = omega (arith, end-points _ _ c.requires.2 _ _ c.count_at-5.ensures c.count_at-6.ensures)

pub overflow_mul-result-2 : goal.overflow_mul-result-2
overflow_mul-result-2 c = omega (arith, end-points _ _ c.requires.2 _ _ c.count_at-5.ensures c.count_at-6.ensures)

pub returns : goal.returns
returns c = end_is _ _ c.requires.2 _ _ _ _ _ _ c.count_at.ensures c.count_at-2.ensures c.count_at-3.ensures c.count_at-4.ensures c.count_at-5.ensures c.count_at-6.ensures
