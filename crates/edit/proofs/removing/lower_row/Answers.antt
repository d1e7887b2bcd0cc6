-- `edit::lower_row` meets its contract: the ways are in `LowerWays`. Assumes nothing.
use Rattle.edit.proofs.LowerWays.{first-up, second-up, third-up, row-lowered, length_three}
use Rattle.edit.proofs.removing.lower_row.Goals as goal

pub lower_at-requires : goal.lower_at-requires
lower_at-requires c = let u = first-up _ c.requires.0 c.requires.4 in (u.0, c.requires.1, u.1)

pub lower_at-requires-2 : goal.lower_at-requires-2
lower_at-requires-2 c = let u = second-up _ c.requires.0 c.requires.4 _ _ c.lower_at.ensures in (u.0, c.requires.2, u.1)

pub lower_at-requires-3 : goal.lower_at-requires-3
lower_at-requires-3 c = let u = third-up _ c.requires.0 c.requires.4 _ _ c.lower_at.ensures _ _ c.lower_at-2.ensures in (u.0, c.requires.3, u.1)

pub shape_of-rows : goal.shape_of-rows
shape_of-rows c = length_three _ c.requires.0 c.requires.4 _ _ c.lower_at.ensures _ _ c.lower_at-2.ensures _ _ c.lower_at-3.ensures

pub returns : goal.returns
returns c = row-lowered _ c.requires.0 c.requires.4 _ _ c.lower_at.ensures _ _ c.lower_at-2.ensures _ _ c.lower_at-3.ensures
