-- `edit::move_points` meets its contract: the loop's invariant is `Moving`. Assumes nothing.
use Prim.Native.Nat.{◌-◌}
use Rattle.edit.proofs.PointMoves.{Moving}
use Rattle.edit.proofs.moving.move_points.Given as goal

abbrev pub invariant-loop-k : goal.invariant-loop-k
invariant-loop-k l = Moving l.dx l.dy l.v l.initial.s l.s l.k

abbrev pub decreases-loop-k : goal.decreases-loop-k
decreases-loop-k l = l.v - l.k
