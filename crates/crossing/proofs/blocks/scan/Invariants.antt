-- `crossing::blocks::scan` meets its contract: the edges so far are not met. Assumes nothing.
use Prim.Native.Nat.{◌-◌}
use Rattle.crossing.specs.Boxes.{Skip, meets_at}
use Rattle.crossing.proofs.blocks.scan.Given as goal

abbrev pub invariant-loop-e : goal.invariant-loop-e
invariant-loop-e l = Skip (meets_at l.points l.from l.a l.b) l.j l.stop l.e

abbrev pub decreases-loop-e : goal.decreases-loop-e
decreases-loop-e l = l.stop - l.e
