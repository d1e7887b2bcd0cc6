-- `edit::points_stay` meets its contract: the points passed stay. Assumes nothing.
use mathlib.Core.Path.{◌≡◌}
use Prim.Native.Nat.{◌-◌, ◌*◌, ◌≤◌}
use lib.ListN.{drop}
use Rattle.plane.specs.Moved.{moved}
use Rattle.made.specs.Made.{are_reals}
use Rattle.edit.proofs.moving.points_stay.Given as goal

abbrev pub invariant-loop-k : goal.invariant-loop-k
invariant-loop-k l = (l.k ≤ l.v) × (are_reals (moved l.dx l.dy l.s) ≡ are_reals (moved l.dx l.dy (drop (2 * l.k) l.s)))

abbrev pub decreases-loop-k : goal.decreases-loop-k
decreases-loop-k l = l.v - l.k
