-- `grid::east_of` meets its contract. Assumes nothing.
use Rattle.grid.proofs.EdgeWays.{read_by, east-is}
use Rattle.grid.proofs.east_of.Goals as goal

pub past-requires : goal.past-requires
past-requires c = read_by _ _ _ c.ranges.cx c.number_at.ensures c.number_at.type_inv c.requires.1

pub returns : goal.returns
returns c = east-is _ _ _ c.ranges.cx c.number_at.ensures c.number_at.type_inv _ c.past.type_inv c.past.ensures
