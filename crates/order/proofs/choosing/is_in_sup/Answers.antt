-- `order::choosing::is_in_sup` meets its contract. Assumes nothing.
use Rattle.order.proofs.ChoosingWays.{sup-is}
use borrow.Author.Rules.{rules}
use Rattle.order.proofs.choosing.is_in_sup.Goals as goal

pub returns-then-is_border : goal.returns-then-is_border
returns-then-is_border c = search (sup-is, rules)
