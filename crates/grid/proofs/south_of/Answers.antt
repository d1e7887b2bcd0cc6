-- `grid::south_of` meets its contract. Assumes nothing.
use Rattle.grid.proofs.EdgeWays.{read-by-up, south-is}
use Rattle.grid.proofs.south_of.Goals as goal

pub past-requires : goal.past-requires
past-requires c = read-by-up _ _ _ c.ranges.cy c.number_at.ensures c.number_at.type_inv c.requires.1

pub returns : goal.returns
returns c = south-is _ _ _ c.ranges.cy c.number_at.ensures c.number_at.type_inv _ c.past.type_inv c.past.ensures
