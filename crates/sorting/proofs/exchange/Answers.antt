-- `exchange` meets its contract: each of two lines is stored where the other stood. Assumes nothing.
use Rattle.sorting.proofs.CodeWays.{both_stored}
use Rattle.sorting.proofs.exchange.Goals as goal

pub returns : goal.returns
returns c = both_stored _ _ _ c.requires.0 c.requires.1 _ _ c.line_at-a.ensures c.line_at-b.ensures c.put_bytes.ensures c.put_bytes-2.ensures
