-- `reader::put_ring` meets its contract. Assumes nothing.
use Rattle.reader.proofs.Running.{stores-join, stores-turns}
use Rattle.reader.proofs.Rows.{turns-inside}
use Rattle.reader.proofs.pieces.put_ring.Goals as goal

pub run_into-requires : goal.run_into-requires
run_into-requires c = turns-inside c.requires.0 (stores-turns c.ring_into-e.ensures)

pub returns : goal.returns
returns c = stores-join c.ring_into-e.ensures c.run_into.ensures
