-- `is_right_border` meets its contract. Assumes nothing.
use borrow.Author.Rules.{rules}
use Rattle.supcheck.proofs.WalkingWays.{border-known}
use Rattle.supcheck.proofs.walking.is_right_border.Goals as goal

pub returns : goal.returns
returns c = search (border-known, rules)
