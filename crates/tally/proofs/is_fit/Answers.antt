-- `tally::is_fit` meets its contract: the ways are in `TallyWays`. Assumes nothing.
use Rattle.tally.proofs.TallyWays.{fit-ways}
use borrow.Author.Rules.{rules}
use Rattle.tally.proofs.is_fit.Goals as goal

pub overflow_sub-result : goal.overflow_sub-result
overflow_sub-result c = search (fit-ways, rules)

pub returns-then-is_figure : goal.returns-then-is_figure
returns-then-is_figure c = search (fit-ways, rules)

pub returns-else-is_figure : goal.returns-else-is_figure
returns-else-is_figure c = search (fit-ways, rules)
