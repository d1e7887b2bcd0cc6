-- `reader::size_next` meets its contract. Assumes nothing.
use Rattle.reader.proofs.Turning.{next-size, next-none}
use Rattle.reader.proofs.turns.size_next.Goals as goal

pub returns-then-is_turning : goal.returns-then-is_turning
returns-then-is_turning c = next-size _ _ _ _ c.is_turning.ensures _ c.if-is_turning.true c.size_of.ensures

pub returns : goal.returns
returns c = next-none _ _ _ _ c.is_turning.ensures c.if-is_turning.false
