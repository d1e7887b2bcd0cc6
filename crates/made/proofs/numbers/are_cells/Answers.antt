-- `made::are_cells` stops at a number that is wrong. Assumes nothing.
use Rattle.std.proofs.Common.{rules, arith}
use lib.ListN.{length-take}
use Rattle.kinds.specs.Kinds.{own_width}
use Rattle.made.specs.Made.{is_cell_at}
use Rattle.made.proofs.NumberWays.{below_not}
use Rattle.made.proofs.numbers.are_cells.Goals as goal

pub returns-then-not-is_cell : goal.returns-then-not-is_cell
returns-then-not-is_cell c =
    below_not own_width (is_cell_at c.args.kind c.args.rows.now) c.loop-place.place (omega (arith, length-take own_width c.args.rows.now)) (search rules)
