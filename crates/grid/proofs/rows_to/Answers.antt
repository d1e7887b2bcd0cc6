-- `grid::rows_to` meets its contract. Assumes nothing.
use Rattle.grid.proofs.SpanWays.{next_fits, next-asks, next-upto}
use Rattle.grid.proofs.rows_to.Goals as goal

pub overflow_add-v : goal.overflow_add-v
overflow_add-v c = next_fits c.args.cell _ c.ranges.v c.requires.0

pub centres_before-requires : goal.centres_before-requires
centres_before-requires c = next-asks _ _ c.ranges.v c.requires.0 c.requires.1 c.requires.2

pub returns : goal.returns
returns c = next-upto _ _ c.ranges.v c.requires.0 _ c.centres_before.ensures
