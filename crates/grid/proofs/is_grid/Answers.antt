-- `grid::is_grid` meets its contract. Assumes nothing.
use mathlib.Core.Bool.{not}
use mathlib.Core.Path.{ap, ◌∙◌}
use Rattle.grid.proofs.CheckWays.{grid-west, grid-north, grid-east, grid-south, grid-east-fits, grid-south-fits}
use Rattle.grid.proofs.is_grid.Goals as goal
use Rattle.grid.proofs.is_grid.Goals.{then-not-is_real-via-then-not-is_real, then-not-is_real-via-else-not-is_real+then-not-is_real-2}

pub returns-then-not-is_real : goal.returns-then-not-is_real
returns-then-not-is_real c =
    elim c.then-not-is_real.branch [
      | then-not-is_real-via-then-not-is_real w ↦ grid-west _ _ _ c.ranges.cx c.ranges.cy c.requires _ c.is_real.ensures (ap not w.if-not-is_real.true)
      | then-not-is_real-via-else-not-is_real+then-not-is_real-2 w ↦ grid-north _ _ _ c.ranges.cx c.ranges.cy c.requires _ c.is_real.ensures (ap not w.if-not-is_real.false) _ w.is_real-else-not-is_real.ensures (ap not w.if-not-is_real-2.true)
    ]

pub overflow_add-cx : goal.overflow_add-cx
overflow_add-cx c = grid-east-fits _ _ _ c.ranges.cx c.ranges.cy c.requires _ c.is_real.ensures (ap not c.if-not-is_real.false) _ c.is_real-else-not-is_real.ensures (ap not c.if-not-is_real-2.false)

pub overflow_sub-cy : goal.overflow_sub-cy
overflow_sub-cy c = grid-south-fits _ _ _ c.ranges.cx c.ranges.cy c.requires _ c.is_real.ensures (ap not c.if-not-is_real.false) _ c.is_real-else-not-is_real.ensures (ap not c.if-not-is_real-2.false)

pub returns-then-is_real : goal.returns-then-is_real
returns-then-is_real c = grid-south _ _ _ c.ranges.cx c.ranges.cy c.requires _ c.is_real.ensures (ap not c.if-not-is_real.false) _ c.is_real-else-not-is_real.ensures (ap not c.if-not-is_real-2.false) _ c.is_real-2.ensures (ap not c.if-is_real.true) _ c.is_real-then-is_real.ensures

pub returns-else-is_real : goal.returns-else-is_real
returns-else-is_real c = c.if-is_real.false ∙ grid-east _ _ _ c.ranges.cx c.ranges.cy c.requires _ c.is_real.ensures (ap not c.if-not-is_real.false) _ c.is_real-else-not-is_real.ensures (ap not c.if-not-is_real-2.false) _ c.is_real-2.ensures (ap not c.if-is_real.false)
