-- `reader::put_piece` meets its contract. Assumes nothing.
use Rattle.reader.specs.Store.{no-turn}
use Rattle.reader.proofs.Rows.{enters-puts, stores-puts}
use Rattle.reader.proofs.pieces.put_piece.Goals as goal

pub returns-in-Due : goal.returns-in-Due
returns-in-Due c = c.put_heads.ensures _

pub returns-in-Field : goal.returns-in-Field
returns-in-Field c = enters-puts _ _ _ c.fields_into.ensures

pub returns-in-Island : goal.returns-in-Island
returns-in-Island c = c.islands_into.ensures.puts _ _ _

pub returns-in-X : goal.returns-in-X
returns-in-X c = stores-puts _ _ _ c.put_ring.ensures

pub returns-in-Y : goal.returns-in-Y
returns-in-Y c = no-turn
