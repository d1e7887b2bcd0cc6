-- `grid::rows_at` meets its contract. Assumes nothing.
use Rattle.grid.proofs.EdgeWays.{south-within, rows-south}
use Rattle.grid.proofs.rows_at.Goals as goal

pub rows_to-requires : goal.rows_to-requires
rows_to-requires c = (south-within c.args.points.now _ c.ranges.cy c.args.v _ c.south_of.ensures c.south_of.type_inv c.requires.1, c.requires.2, c.requires.3)

pub returns : goal.returns
returns c = rows-south c.args.points.now _ c.ranges.cy c.args.v _ c.south_of.ensures c.south_of.type_inv _ _ c.rows_to.ensures
