-- `mask::turn_islands` meets its contract. Assumes nothing.
use mathlib.Core.Path.{sym, ◌∙◌}
use native.Mathlib.Omega.{arith}
use Rattle.mask.proofs.TurnWays.{islands-room, islands-sized, islands-on, turn-start, turn-off, turn-all}
use Rattle.mask.proofs.turn_islands.Goals as goal

pub loop-size-init : goal.loop-size-init
loop-size-init c = turn-start _ _ _ _ _ _ c.ranges.cx c.ranges.cy _ c.requires

pub returns : goal.returns
returns c = turn-all _ _ _ _ _ _ c.ranges.cx c.ranges.cy _ _ _ c.loop-size.invariant c.loop-size-test.false

pub turn_over-requires : goal.turn_over-requires
turn_over-requires c = (c.loop-size.invariant.holds.sized, islands-sized _ _ _ _ _ _ _ _ _ c.loop-size.invariant c.loop-size-test.true _ c.from-n.ensures _ c.ring_cells.ensures _ c.in-Some.is)

pub overflow_add-at : goal.overflow_add-at
overflow_add-at c = omega (arith, islands-room _ _ _ _ _ _ _ _ _ c.loop-size.invariant c.loop-size-test.true _ c.from-n.ensures _ c.ring_cells.ensures _ c.in-Some.is)

pub loop-size-preserved : goal.loop-size-preserved
loop-size-preserved c = islands-on _ _ _ _ _ _ _ _ _ c.loop-size.invariant c.loop-size-test.true _ c.from-n.ensures _ c.ring_cells.ensures _ c.in-Some.is _ c.turn_over.ensures

pub returns-in_default : goal.returns-in_default
returns-in_default c = turn-off _ _ _ _ _ _ c.ranges.cx c.ranges.cy _ _ _ c.loop-size.invariant c.loop-size-test.true _ c.from-n.ensures _ c.ring_cells.ensures c.in_default.is

pub shape_of-rows : goal.shape_of-rows
shape_of-rows c = c.loop-size.invariant.holds.sized ∙ sym c.requires.sized
