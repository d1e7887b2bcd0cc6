-- `number::real_at` meets its contract: in exact mode it is neat, in another nothing more is asked. Assumes nothing.
use borrow.Author.Rules.{rules}
use Rattle.number.proofs.RealWays.{real_ways}
use Rattle.number.proofs.real_at.Goals as goal
use Rattle.number.proofs.real_at.Goals.{else-is_exact-via-then-is_exact+else-not-is_neat, else-is_exact-via-else-is_exact}

pub returns : goal.returns
returns c =
    elim c.else-is_exact.branch [
      | else-is_exact-via-then-is_exact+else-not-is_neat w ↦ search (real_ways, rules)
      | else-is_exact-via-else-is_exact w ↦ search (real_ways, rules)
    ]
