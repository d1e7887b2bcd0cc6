-- `reader::skim_piece` meets its contract. Assumes nothing.
use Rattle.reader.specs.Turn.{still}
use Rattle.reader.proofs.pieces.skim_piece.Goals as goal

pub returns-in-Y : goal.returns-in-Y
returns-in-Y c = still
