-- `edit::rows_stay` meets its contract: the loop's invariant is `Testing`. Assumes nothing.
use Prim.Native.Nat.{◌-◌}
use Rattle.edit.specs.Moves.{row_stays}
use Rattle.edit.proofs.RowLoops.{Testing}
use Rattle.edit.proofs.moving.rows_stay.Given as goal

abbrev pub invariant-loop-k : goal.invariant-loop-k
invariant-loop-k l = Testing (row_stays l.dx l.dy) l.count l.rows l.r l.k

abbrev pub decreases-loop-k : goal.decreases-loop-k
decreases-loop-k l = l.count - l.k
