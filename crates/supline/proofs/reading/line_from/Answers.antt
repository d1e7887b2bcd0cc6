-- `line_from` meets its contract. Assumes nothing.
use Rattle.supline.proofs.ReadingWays.{reading-ways}
use borrow.Author.Rules.{rules}
use Rattle.supline.proofs.reading.line_from.Goals as goal

pub returns-then-k-s : goal.returns-then-k-s
returns-then-k-s c = search (reading-ways, rules)

pub returns : goal.returns
returns c = search (reading-ways, rules)
