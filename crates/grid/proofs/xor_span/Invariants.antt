-- `grid::xor_span` meets its contract: the loop's invariant is `Turning`. Assumes nothing.
use Prim.Native.Nat.{◌-◌}
use Rattle.grid.proofs.SpanWays.{Turning}
use Rattle.grid.proofs.xor_span.Given as goal

abbrev pub invariant-loop-r : goal.invariant-loop-r
invariant-loop-r l = Turning l.initial.rows l.rows l.nx l.nv l.sx l.sv l.cell l.stop l.r

abbrev pub decreases-loop-r : goal.decreases-loop-r
decreases-loop-r l = l.stop - l.r
