-- `edit::lower_rows` meets its contract: the loop's invariant is `Changing`. Assumes nothing.
use Prim.Native.Nat.{◌-◌}
use Rattle.made.specs.Made.{starts_at}
use Rattle.edit.specs.Closing.{fallen_row}
use Rattle.edit.proofs.RowLoops.{Changing}
use Rattle.edit.proofs.removing.lower_rows.Given as goal

abbrev pub invariant-loop-k : goal.invariant-loop-k
invariant-loop-k l = Changing (fallen_row (starts_at l.letters l.islands l.points)) l.count l.initial.rows l.rows l.r l.k

abbrev pub decreases-loop-k : goal.decreases-loop-k
decreases-loop-k l = l.count - l.k
