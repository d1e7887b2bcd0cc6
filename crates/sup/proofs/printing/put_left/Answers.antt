-- `put_left` meets its contract: the name, and blanks behind it. Assumes nothing.
use Rattle.sup.proofs.LineWays.{blank-size, left-done}
use Rattle.sup.proofs.printing.put_left.Goals as goal

pub slice_bounds-put_bytes-end : goal.slice_bounds-put_bytes-end
slice_bounds-put_bytes-end c = blank-size _

pub returns : goal.returns
returns c = left-done _ _ _ c.requires.0 c.requires.1 c.put_bytes-next.ensures c.put_bytes.ensures
