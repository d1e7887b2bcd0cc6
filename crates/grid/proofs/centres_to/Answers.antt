-- `grid::centres_to` meets its contract. Assumes nothing.
use Rattle.grid.proofs.CentreWays.{before-ways}
use borrow.Author.Rules.{rules}
use Rattle.grid.proofs.centres_to.Goals as goal

pub returns-then-step-bound : goal.returns-then-step-bound
returns-then-step-bound c = search (before-ways, rules)

pub returns : goal.returns
returns c = search (before-ways, rules)
