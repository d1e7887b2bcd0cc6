-- `grid::step_of` meets its contract. Assumes nothing.
use Rattle.grid.proofs.CentreWays.{apart_fits, apart-cast, apart-is, apart-times}
use Rattle.grid.proofs.step_of.Goals as goal

pub overflow_sub-result : goal.overflow_sub-result
overflow_sub-result c = apart_fits _ _ c.requires.0 c.requires.1 c.requires.2 c.ranges.nv c.ranges.sv

pub overflow_cast-result : goal.overflow_cast-result
overflow_cast-result c = apart-cast _ _ c.requires.0 c.requires.1 c.requires.2 c.ranges.nv c.ranges.sv

pub overflow_mul-result : goal.overflow_mul-result
overflow_mul-result c = apart-times _ _ c.requires.0 c.requires.1 c.requires.2 c.ranges.nv c.ranges.sv c.args.cell c.requires.3

pub returns : goal.returns
returns c = apart-is _ _ c.requires.0 c.requires.1 c.requires.2 c.ranges.nv c.ranges.sv c.args.cell
