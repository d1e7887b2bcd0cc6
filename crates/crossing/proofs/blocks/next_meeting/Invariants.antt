-- `crossing::blocks::next_meeting` meets its contract: the edges so far are not met, and the next stands in block k. Assumes nothing.
use Prim.Native.Nat.{◌+◌, ◌*◌, ◌-◌, ◌≤◌, ◌<◌}
use Rattle.crossing.specs.Boxes.{Skip, meets_at}
use Rattle.crossing.proofs.blocks.next_meeting.Given as goal

abbrev pub invariant-loop-e : goal.invariant-loop-e
invariant-loop-e l = Skip (meets_at l.points l.from l.a l.b) l.j l.stop l.e × (l.e < l.stop → l.k * l.size ≤ l.e) × (l.e < l.k * l.size + l.size)

abbrev pub decreases-loop-e : goal.decreases-loop-e
decreases-loop-e l = l.stop - l.e
