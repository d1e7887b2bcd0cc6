-- `crossing::blocks::highest` meets its contract: the loop keeps the greatest so far. Assumes nothing.
use Prim.Native.Nat.{◌+◌, ◌-◌, ◌≤◌}
use Rattle.crossing.specs.Boxes.{along, Ceiling}
use Rattle.crossing.proofs.blocks.highest.Given as goal

abbrev pub invariant-loop-v : goal.invariant-loop-v
invariant-loop-v l = (l.v ≤ l.last) × Ceiling (λ k. along l.points l.axis (l.from + k)) l.first l.v l.z

abbrev pub decreases-loop-v : goal.decreases-loop-v
decreases-loop-v l = l.last - l.v
