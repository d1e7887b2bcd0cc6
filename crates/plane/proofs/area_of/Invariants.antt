-- `plane::area_of` meets its contract. The loop's invariant: vertices 0 to k are near the first, and the sum is that over the edges up to k. Assumes nothing.
use Rattle.plane.proofs.AreaWays.{Summed}
use Rattle.plane.proofs.area_of.Given as goal

abbrev pub invariant-loop-k : goal.invariant-loop-k
invariant-loop-k l = Summed l.points l.from l.count l.x1 l.y1 l.s l.k
