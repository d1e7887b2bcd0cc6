-- `crossing::blocks::lowest` meets its contract: the loop keeps the least so far. Assumes nothing.
use Prim.Native.Nat.{◌+◌, ◌-◌, ◌≤◌}
use Rattle.crossing.specs.Boxes.{along, Floor}
use Rattle.crossing.proofs.blocks.lowest.Given as goal

abbrev pub invariant-loop-v : goal.invariant-loop-v
invariant-loop-v l = (l.v ≤ l.last) × Floor (λ k. along l.points l.axis (l.from + k)) l.first l.v l.z

abbrev pub decreases-loop-v : goal.decreases-loop-v
decreases-loop-v l = l.last - l.v
