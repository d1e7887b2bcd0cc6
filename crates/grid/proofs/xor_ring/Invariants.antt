-- `grid::xor_ring` meets its contract: the loop's invariant is `Ringing`. Assumes nothing.
use Rattle.grid.proofs.RingWays.{Ringing}
use Rattle.grid.proofs.xor_ring.Given as goal

abbrev pub invariant-loop-k : goal.invariant-loop-k
invariant-loop-k l = Ringing l.rows l.points l.from l.count l.cx l.cy l.cell l.at l.k
