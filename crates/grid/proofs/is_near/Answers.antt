-- `grid::is_near` meets its contract. Assumes nothing.
use mathlib.Core.Path.{◌∙◌}
use Rattle.grid.proofs.CheckWays.{corner-yes, corner-no}
use Rattle.grid.proofs.is_near.Goals as goal

pub returns-then-is_by : goal.returns-then-is_by
returns-then-is_by c = corner-yes _ _ _ _ c.ranges.cx c.ranges.cy _ c.number_at.ensures c.number_at.type_inv _ c.is_by.ensures c.if-is_by.true _ c.number_at-then-is_by.ensures c.number_at-then-is_by.type_inv _ c.is_by-then-is_by.ensures

pub returns-else-is_by : goal.returns-else-is_by
returns-else-is_by c = c.if-is_by.false ∙ corner-no _ _ _ _ c.ranges.cx c.ranges.cy _ c.number_at.ensures c.number_at.type_inv _ c.is_by.ensures c.if-is_by.false
