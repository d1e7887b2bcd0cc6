-- `figure_said` meets its contract: the digits, with their sign. Assumes nothing.
use borrow.Author.Rules.{rules}
use Rattle.supline.proofs.ReadingWays.{said-asks, said-below, said-above, reading-ways}
use Rattle.supline.proofs.reading.figure_said.Goals as goal

pub overflow_cast-n : goal.overflow_cast-n
overflow_cast-n c = search (reading-ways, rules)

pub overflow_sub-result : goal.overflow_sub-result
overflow_sub-result c = said-asks c.args.s.now _ c.value_of-n.ensures

pub returns-then-has_minus : goal.returns-then-has_minus
returns-then-has_minus c = said-below c.args.s.now _ c.value_of-n.ensures _ c.has_minus.ensures c.if-has_minus.true

pub returns : goal.returns
returns c = said-above c.args.s.now _ c.value_of-n.ensures _ c.has_minus.ensures c.if-has_minus.false
