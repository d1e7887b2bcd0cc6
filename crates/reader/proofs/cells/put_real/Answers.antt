-- `put_real` meets its contract: the difference fits, and is the real. Assumes nothing.
use Rattle.reader.proofs.Storing.{real_asks, real-stored}
use Rattle.reader.proofs.cells.put_real.Goals as goal

pub overflow_sub-dst : goal.overflow_sub-dst
overflow_sub-dst c = real_asks c.args.t c.requires.1

pub returns : goal.returns
returns c = rw (real-stored c.args.t c.requires.1)
