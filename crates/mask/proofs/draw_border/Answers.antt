-- `mask::draw_border` meets its contract. Assumes nothing.
use mathlib.Core.Bool.{not}
use mathlib.Core.Path.{ap}
use Rattle.mask.proofs.MaskWays.{border-off, border-outer, border-far, border-drawn}
use Rattle.mask.proofs.draw_border.Goals as goal

pub returns-in_default : goal.returns-in_default
returns-in_default c = border-off _ c.args.islands.now _ _ _ _ c.ranges.cx c.ranges.cy _ c.outer_of-n.ensures c.requires _ c.ring_cells.ensures c.in_default.is _ c.blank_of.ensures

pub turn_islands-requires : goal.turn_islands-requires
turn_islands-requires c = border-outer _ c.args.islands.now _ _ _ _ c.ranges.cx c.ranges.cy _ c.outer_of-n.ensures c.requires _ c.ring_cells.ensures _ c.in-Some.is

pub returns-then-not-turn_islands : goal.returns-then-not-turn_islands
returns-then-not-turn_islands c = border-far _ c.args.islands.now _ _ _ _ c.ranges.cx c.ranges.cy _ c.outer_of-n.ensures c.requires _ c.ring_cells.ensures _ c.in-Some.is _ c.turn_islands.ensures.0 (ap not c.if-not-turn_islands.true) _ c.blank_of-then-not-turn_islands.ensures

pub returns : goal.returns
returns c = border-drawn _ c.args.islands.now _ _ _ _ c.ranges.cx c.ranges.cy _ c.outer_of-n.ensures c.requires _ c.ring_cells.ensures _ c.in-Some.is _ c.turn_islands.ensures.0 (ap not c.if-not-turn_islands.false) _ c.turn_islands.ensures.1 _ c.covered_in.ensures
