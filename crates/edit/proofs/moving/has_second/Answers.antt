-- `edit::has_second` meets its contract: the ways are in `PlaceWays`. Assumes nothing.
use borrow.Author.Rules.{rules}
use Rattle.edit.proofs.PlaceWays.{place-ways}
use Rattle.edit.proofs.moving.has_second.Goals as goal

pub returns-then-kind-eq1 : goal.returns-then-kind-eq1
returns-then-kind-eq1 c = search (place-ways, rules)

pub returns-then-kind-eq4 : goal.returns-then-kind-eq4
returns-then-kind-eq4 c = search (place-ways, rules)

pub returns-else-kind-eq4 : goal.returns-else-kind-eq4
returns-else-kind-eq4 c = search (place-ways, rules)
