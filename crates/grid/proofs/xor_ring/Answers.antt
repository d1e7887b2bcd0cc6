-- `grid::xor_ring` meets its contract: the loop's invariant is `Ringing`. Assumes nothing.
use mathlib.Core.Bool.{not}
use mathlib.Core.Path.{sym, ◌∙◌, ap}
use native.Mathlib.Omega.{arith}
use Rattle.grid.proofs.CheckWays.{laid-has}
use Rattle.grid.proofs.RingWays.{ring-here, ring-held, ring-next, ring-by, ring-on, trace-first, trace-none, trace-near, trace-start, trace-far, trace-over}
use Rattle.grid.proofs.xor_ring.Goals as goal

pub is_near-requires : goal.is_near-requires
is_near-requires c = trace-first c.args.points.now _ _ _ _ _ c.ranges.cx c.ranges.cy c.requires.1

pub returns-then-not-is_near : goal.returns-then-not-is_near
returns-then-not-is_near c = trace-none c.args.points.now _ _ _ _ _ c.ranges.cx c.ranges.cy c.requires.1 _ c.is_near.ensures (ap not c.if-not-is_near.true) _

pub rows_at-at-requires : goal.rows_at-at-requires
rows_at-at-requires c = let h = laid-has c.args.points.now _ _ _ _ _ c.requires.1 in (trace-first c.args.points.now _ _ _ _ _ c.ranges.cx c.ranges.cy c.requires.1, trace-near c.args.points.now _ _ _ _ _ c.ranges.cx c.ranges.cy c.requires.1 _ c.is_near.ensures (ap not c.if-not-is_near.false), h.low, h.high)

pub overflow_sub-k-end : goal.overflow_sub-k-end
overflow_sub-k-end c = let h = laid-has c.args.points.now _ _ _ _ _ c.requires.1 in omega arith

pub loop-k-init : goal.loop-k-init
loop-k-init c = trace-start c.args.points.now _ _ _ _ _ c.ranges.cx c.ranges.cy c.requires.1 _ c.is_near.ensures (ap not c.if-not-is_near.false) _ c.requires.0 _ c.rows_at-at.ensures

pub is_near-requires-in-loop-k : goal.is_near-requires-in-loop-k
is_near-requires-in-loop-k c = omega (arith, c.loop-k.invariant.held, c.loop-k-test.true)

pub shape_of-rows-then-not-is_near-2 : goal.shape_of-rows-then-not-is_near-2
shape_of-rows-then-not-is_near-2 c = c.loop-k.invariant.holds.sized ∙ sym c.requires.0.sized

pub returns-then-not-is_near-2 : goal.returns-then-not-is_near-2
returns-then-not-is_near-2 c = trace-far c.args.points.now _ _ _ _ _ c.ranges.cx c.ranges.cy c.requires.1 _ _ _ c.loop-k.invariant (omega (arith, c.loop-k-test.true)) _ c.is_near-in-loop-k.ensures (ap not c.if-not-is_near-2.true)

pub rows_at-next-requires : goal.rows_at-next-requires
rows_at-next-requires c = let h = laid-has c.args.points.now _ _ _ _ _ c.requires.1 in (omega (arith, c.loop-k.invariant.held, c.loop-k-test.true), ring-by _ _ _ _ _ _ _ _ _ c.loop-k.invariant (omega (arith, c.loop-k-test.true)) _ c.is_near-in-loop-k.ensures (ap not c.if-not-is_near-2.false), h.low, h.high)

pub xor_edge-requires : goal.xor_edge-requires
xor_edge-requires c = let h = laid-has c.args.points.now _ _ _ _ _ c.requires.1 in let i = c.loop-k.invariant in (i.holds.sized, ring-held _ _ _ _ _ _ _ _ _ i (omega (arith, c.loop-k-test.true)) _ c.is_near-in-loop-k.ensures, ring-here _ _ _ _ _ _ _ _ _ i, ring-next _ _ _ _ _ _ _ _ _ i (omega (arith, c.loop-k-test.true)) _ c.is_near-in-loop-k.ensures (ap not c.if-not-is_near-2.false), i.rows, c.rows_at-next.ensures, h.low, h.high)

pub loop-k-preserved : goal.loop-k-preserved
loop-k-preserved c = ring-on _ _ _ _ _ _ _ _ _ c.loop-k.invariant (omega (arith, c.loop-k-test.true)) _ c.is_near-in-loop-k.ensures (ap not c.if-not-is_near-2.false) _ c.rows_at-next.ensures _ c.xor_edge.ensures

pub shape_of-rows : goal.shape_of-rows
shape_of-rows c = c.loop-k.invariant.holds.sized ∙ sym c.requires.0.sized

pub returns : goal.returns
returns c = trace-over c.args.points.now _ _ _ _ _ c.ranges.cx c.ranges.cy c.requires.1 _ _ _ c.loop-k.invariant (omega (arith, c.loop-k-test.false))
