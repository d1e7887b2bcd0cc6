-- `crossing::blocks::put_boxes` meets its contract: the blocks so far have their boxes. Assumes nothing.
use mathlib.Core.Path.{◌≡◌}
use Prim.Native.Nat.{ℕ, ◌+◌, ◌*◌, ◌-◌, ◌<◌}
use lib.ListN.{length}
use Rattle.crossing.specs.Boxes.{box-most, Boxed}
use Rattle.crossing.proofs.blocks.put_boxes.Given as goal

abbrev pub invariant-loop-k : goal.invariant-loop-k
invariant-loop-k l = (length l.boxes ≡ length l.initial.boxes) × (l.k * l.size < l.edges + l.size) × ((m : ℕ) → m < l.k → Boxed l.points l.from l.edges l.size l.boxes m)

abbrev pub decreases-loop-k : goal.decreases-loop-k
decreases-loop-k l = box-most - l.k
