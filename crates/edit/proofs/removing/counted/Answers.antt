-- `edit::counted` meets its contract: the number fits, so the count does. Assumes nothing.
use lib.ListN.{get_or}
use lib.IntN.{pos}
use Rattle.edit.proofs.RemoveWays.{counted_is}
use Rattle.edit.proofs.removing.counted.Goals as goal

pub bounds-rows-at : goal.bounds-rows-at
bounds-rows-at c = c.requires

pub returns : goal.returns
returns c = counted_is (get_or c.args.rows.now c.args.at (pos 0)) c.count_of-arg-1.given _ c.count_of.ensures
