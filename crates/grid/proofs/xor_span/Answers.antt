-- `grid::xor_span` meets its contract: the loop's invariant is `Turning`. Assumes nothing.
use native.Mathlib.Omega.{arith}
use borrow.Author.Rules.{rules}
use Rattle.grid.proofs.SpanWays.{turn-row, turn-room, span-start, span-asks, span-on, span-done}
use Rattle.grid.proofs.xor_span.Goals as goal

pub loop-r-init : goal.loop-r-init
loop-r-init c = span-start _ _ _ _ _ c.ranges.nx c.ranges.nv c.ranges.sx c.ranges.sv _ _ _ c.requires.0 c.requires.5 c.requires.6

pub height-requires : goal.height-requires
height-requires c = (c.requires.8, turn-row _ _ _ _ _ _ _ _ _ c.loop-r.invariant c.loop-r-test.true)

pub crossing_bits-requires : goal.crossing_bits-requires
crossing_bits-requires c = let p = c.requires in let f = c.ranges in span-asks _ _ _ _ _ f.nx f.nv f.sx f.sv p.1 p.2 p.3 p.4 p.7 p.8 _ _ _ _ c.loop-r.invariant c.loop-r-test.true _ c.height.ensures c.height.type_inv

pub offset_bounds-rows-r : goal.offset_bounds-rows-r
offset_bounds-rows-r c = let h = turn-row _ _ _ _ _ _ _ _ _ c.loop-r.invariant c.loop-r-test.true in record { fits = omega arith }

pub bounds-rows-r : goal.bounds-rows-r
bounds-rows-r c = turn-room _ _ _ _ _ _ _ _ _ c.loop-r.invariant c.loop-r-test.true

pub bounds-rows-r-in-loop-r : goal.bounds-rows-r-in-loop-r
bounds-rows-r-in-loop-r c = turn-room _ _ _ _ _ _ _ _ _ c.loop-r.invariant c.loop-r-test.true

pub loop-r-smaller : goal.loop-r-smaller
loop-r-smaller c = let h = c.loop-r-test.true in omega arith

pub loop-r-preserved : goal.loop-r-preserved
loop-r-preserved c = let p = c.requires in let f = c.ranges in span-on _ _ _ _ _ f.nx f.nv f.sx f.sv p.1 p.2 p.3 p.4 p.7 p.8 _ _ _ _ c.loop-r.invariant c.loop-r-test.true _ c.height.ensures c.height.type_inv _ c.crossing_bits.ensures

pub shape_of-rows : goal.shape_of-rows
shape_of-rows c = let h = c.loop-r.invariant.sized in search rules

pub returns : goal.returns
returns c = let p = c.requires in let f = c.ranges in span-done _ _ _ _ _ f.nx f.nv f.sx f.sv p.1 p.2 p.3 p.4 p.7 p.8 _ _ _ _ c.loop-r.invariant c.loop-r-test.false
