-- `grid::is_by` meets its contract. Assumes nothing.
use Rattle.std.proofs.Common.{arith}
use Rattle.std.proofs.lemmas.Grind.{common_steps}
use Rattle.grid.specs.Cells.{by-corner}
use Rattle.grid.proofs.is_by.Goals as goal

pub returns : goal.returns
unfolding by-corner
returns c = grind (arith, common_steps)
