-- `edit::vertices_of` meets its contract: the loop's invariant is `Counting`. Assumes nothing.
use Prim.Native.Nat.{◌-◌}
use Rattle.edit.proofs.PointMoves.{Counting}
use Rattle.edit.proofs.moving.vertices_of.Given as goal

abbrev pub invariant-loop-k : goal.invariant-loop-k
invariant-loop-k l = Counting l.count l.rows l.v l.r l.k

abbrev pub decreases-loop-k : goal.decreases-loop-k
decreases-loop-k l = l.count - l.k
