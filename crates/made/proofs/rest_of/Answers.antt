-- `made::rest_of`: each table behind the row's own part, or nothing. Assumes nothing.
use Rattle.std.proofs.Common.{arith}
use Rattle.made.specs.Made.{tables}
use Rattle.made.proofs.TableWays.{rest_left}
use Rattle.made.proofs.rest_of.Goals as goal

pub returns : goal.returns
returns c =
    rest_left (tables c.args.part.now) _ _ _ _ _ c.min.ensures (rw c.count_at-letters.ensures at c.min-2.ensures) (rw c.count_at-islands.ensures at c.min-3.ensures)
    (rw c.count_at.ensures at c.saturating_mul-points.ensures) (omega arith) c.min-4.ensures
