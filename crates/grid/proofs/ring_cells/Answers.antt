-- `grid::ring_cells` meets its contract: the ways are in `CellWays`. Assumes nothing.
use mathlib.Core.Bool.{not}
use mathlib.Core.Path.{ap}
use Rattle.grid.proofs.HoldLaws.{hold-none}
use Rattle.grid.proofs.CellWays.{cells-off, cells-laid, cells-far, cells-traced}
use Rattle.grid.proofs.ring_cells.Goals as goal

pub returns-then-not-is_laid : goal.returns-then-not-is_laid
returns-then-not-is_laid c = cells-off c.args.points.now _ _ _ _ _ c.ranges.cx c.ranges.cy _ c.is_laid.ensures (ap not c.if-not-is_laid.true)

pub xor_ring-requires : goal.xor_ring-requires
xor_ring-requires c = (hold-none, cells-laid c.args.points.now _ _ _ _ _ c.ranges.cx c.ranges.cy _ c.is_laid.ensures (ap not c.if-not-is_laid.false))

pub returns-then-not-xor_ring : goal.returns-then-not-xor_ring
returns-then-not-xor_ring c = cells-far c.args.points.now _ _ _ _ _ c.ranges.cx c.ranges.cy _ c.is_laid.ensures (ap not c.if-not-is_laid.false) _ c.xor_ring.ensures.0 (ap not c.if-not-xor_ring.true)

pub returns : goal.returns
returns c = cells-traced c.args.points.now _ _ _ _ _ c.ranges.cx c.ranges.cy _ c.is_laid.ensures (ap not c.if-not-is_laid.false) _ c.xor_ring.ensures.0 (ap not c.if-not-xor_ring.false) _ c.xor_ring.ensures.1
