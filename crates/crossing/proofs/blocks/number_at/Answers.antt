-- `crossing::blocks::number_at` meets its contract: the number is in the table. Assumes nothing.
use native.Mathlib.Omega.{arith}
use Rattle.crossing.proofs.blocks.number_at.Goals as goal

pub overflow_mul-result : goal.overflow_mul-result
overflow_mul-result c = omega arith

pub overflow_add-result : goal.overflow_add-result
overflow_add-result c = omega arith

pub offset_bounds-points-v : goal.offset_bounds-points-v
offset_bounds-points-v c = omega arith

pub bounds-points-v : goal.bounds-points-v
bounds-points-v c = omega arith
