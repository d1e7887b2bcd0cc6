-- `mask::turn_over` meets its contract. Assumes nothing.
use mathlib.Core.Path.{sym, ◌∙◌}
use Rattle.mask.proofs.TurnWays.{over-start, over-room, over-on, over_done}
use Rattle.mask.proofs.turn_over.Goals as goal

pub loop-r-init : goal.loop-r-init
loop-r-init c = over-start _ _ c.requires.0

pub bounds-rows-r : goal.bounds-rows-r
bounds-rows-r c = over-room _ _ _ _ c.loop-r.invariant c.loop-r-test.true

pub bounds-rows-r-in-loop-r : goal.bounds-rows-r-in-loop-r
bounds-rows-r-in-loop-r c = over-room _ _ _ _ c.loop-r.invariant c.loop-r-test.true

pub loop-r-preserved : goal.loop-r-preserved
loop-r-preserved c = over-on _ _ _ _ c.loop-r.invariant c.loop-r-test.true

pub shape_of-rows : goal.shape_of-rows
shape_of-rows c = c.loop-r.invariant.room ∙ sym c.requires.0

pub returns : goal.returns
returns c = over_done _ _ _ _ c.loop-r.invariant c.loop-r-test.false c.requires.0
