-- `plane::x_of` meets its contract: both numbers of the vertex are in the table.
use native.Mathlib.Omega.{arith}
use Rattle.plane.proofs.x_of.Goals as goal

pub overflow_mul-result : goal.overflow_mul-result
overflow_mul-result c = omega arith

pub offset_bounds-points-v : goal.offset_bounds-points-v
offset_bounds-points-v c = omega arith

pub bounds-points-v : goal.bounds-points-v
bounds-points-v c = omega arith
