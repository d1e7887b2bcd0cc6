-- `edit::close_islands` meets its contract: the loop's invariant is `Closing`. Assumes nothing.
use Prim.Native.Nat.{◌-◌}
use Rattle.edit.proofs.CloseWays.{Closing}
use Rattle.edit.proofs.removing.close_islands.Given as goal

abbrev pub invariant-loop-i : goal.invariant-loop-i
invariant-loop-i l = Closing l.at l.n l.end l.initial.s l.s l.i

abbrev pub decreases-loop-i : goal.decreases-loop-i
decreases-loop-i l = l.end - l.n - l.i
