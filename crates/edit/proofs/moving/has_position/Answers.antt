-- `edit::has_position` meets its contract: the ways are in `PlaceWays`. Assumes nothing.
use borrow.Author.Rules.{rules}
use Rattle.edit.proofs.PlaceWays.{place-ways}
use Rattle.edit.proofs.moving.has_position.Goals as goal

pub returns-then-kind-lt1 : goal.returns-then-kind-lt1
returns-then-kind-lt1 c = search (place-ways, rules)

pub returns-then-kind-lt5 : goal.returns-then-kind-lt5
returns-then-kind-lt5 c = search (place-ways, rules)

pub returns-else-kind-lt5 : goal.returns-else-kind-lt5
returns-else-kind-lt5 c = search (place-ways, rules)
