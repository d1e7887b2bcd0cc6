-- `reader::size_at` meets its contract. Assumes nothing.
use Rattle.reader.proofs.RingLaws.{size-quick, size-slow}
use Rattle.reader.proofs.ring_runs.size_at.Goals as goal

pub returns-then-q-gt0 : goal.returns-then-q-gt0
returns-then-q-gt0 c = size-quick c.args.mode c.args.src.now c.args.at c.integer_at-q.result c.integer_at-q.ensures c.if-q-gt0.true

pub returns : goal.returns
returns c = size-slow c.args.mode c.args.src.now c.args.at c.size_of.result c.size_of.ensures
