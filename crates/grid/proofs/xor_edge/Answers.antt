-- `grid::xor_edge` meets its contract: the rows to its ends tell which way it goes. Assumes nothing.
use native.Mathlib.Omega.{arith}
use Rattle.grid.proofs.EdgeWays.{edge-near, edge-rows, edge-down, edge-up, edge-level}
use Rattle.grid.proofs.xor_edge.Goals as goal

pub xor_down-requires : goal.xor_down-requires
xor_down-requires c = (c.requires.0, omega (arith, c.requires.1), c.requires.1, edge-near c.args.points.now _ _ c.ranges.cx c.ranges.cy _ c.requires.2, edge-near c.args.points.now _ _ c.ranges.cx c.ranges.cy _ c.requires.3, edge-rows c.args.points.now _ c.ranges.cy _ _ _ c.requires.4, edge-rows c.args.points.now _ c.ranges.cy _ _ _ c.requires.5, c.requires.6, c.requires.7)

pub returns-then-at-next : goal.returns-then-at-next
returns-then-at-next c = edge-down c.args.points.now _ _ _ _ _ _ _ _ c.ranges.cx c.ranges.cy c.requires.4 c.requires.5 c.if-at-next.true c.xor_down.ensures

pub xor_down-requires-then-next-at : goal.xor_down-requires-then-next-at
xor_down-requires-then-next-at c = (c.requires.0, c.requires.1, omega (arith, c.requires.1), edge-near c.args.points.now _ _ c.ranges.cx c.ranges.cy _ c.requires.3, edge-near c.args.points.now _ _ c.ranges.cx c.ranges.cy _ c.requires.2, edge-rows c.args.points.now _ c.ranges.cy _ _ _ c.requires.5, edge-rows c.args.points.now _ c.ranges.cy _ _ _ c.requires.4, c.requires.6, c.requires.7)

pub returns-then-next-at : goal.returns-then-next-at
returns-then-next-at c = edge-up c.args.points.now _ _ _ _ _ _ _ _ c.ranges.cx c.ranges.cy c.requires.4 c.requires.5 c.if-next-at.true c.xor_down-then-next-at.ensures

pub returns-else-next-at : goal.returns-else-next-at
returns-else-next-at c = edge-level c.args.points.now _ _ _ _ _ _ c.args.rows.now c.args.rows.now c.ranges.cx c.ranges.cy c.requires.4 c.requires.5 (omega (arith, c.if-next-at.false, c.if-at-next.false))
