-- `reader::is_same_real` meets its contract. Assumes nothing.
use Rattle.reader.proofs.RingLaws.{same_bytes}
use Rattle.reader.proofs.ring_runs.is_same_real.Goals as goal

pub returns : goal.returns
returns c = same_bytes c.args.a.now c.args.b.now c.requires
