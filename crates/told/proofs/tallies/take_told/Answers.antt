-- `take_told` lays the answer of a running tally out. Assumes nothing.
use Rattle.told.proofs.FigureWays.{take-wrong, take-right}
use Rattle.told.proofs.tallies.take_told.Goals as goal

pub returns-then-count-ne-FIGURES : goal.returns-then-count-ne-FIGURES
returns-then-count-ne-FIGURES c = take-wrong c.args.count c.args.taken c.if-count-ne-FIGURES.true c.empty.ensures c.laid.ensures

pub returns : goal.returns
returns c = take-right c.args.count c.args.taken c.if-count-ne-FIGURES.false c.tally_told.ensures
