-- `tally::take` meets its contract: a row that was found is well made. Assumes nothing.
use Rattle.row.proofs.SeekLaws.{stood}
use Rattle.tally.proofs.take.Goals as goal

pub take_at-requires : goal.take_at-requires
take_at-requires c = rw c.left_at.ensures (stood _ _ _ _ c.in-Ok.d _ c.seek.ensures c.in-Ok.is).made
