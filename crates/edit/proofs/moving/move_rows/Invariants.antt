-- `edit::move_rows` meets its contract: the loop's invariant is `Changing`. Assumes nothing.
use Prim.Native.Nat.{◌-◌}
use Rattle.edit.specs.Moves.{moved_row}
use Rattle.edit.proofs.RowLoops.{Changing}
use Rattle.edit.proofs.moving.move_rows.Given as goal

abbrev pub invariant-loop-k : goal.invariant-loop-k
invariant-loop-k l = Changing (moved_row l.dx l.dy) l.count l.initial.rows l.rows l.r l.k

abbrev pub decreases-loop-k : goal.decreases-loop-k
decreases-loop-k l = l.count - l.k
