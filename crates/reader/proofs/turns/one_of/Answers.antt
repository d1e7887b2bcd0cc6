-- `reader::one_of` meets its contract. Assumes nothing.
use Rattle.reader.proofs.Turning.{one-quick}
use Rattle.reader.proofs.turns.one_of.Goals as goal

pub returns-then-q-gt0 : goal.returns-then-q-gt0
returns-then-q-gt0 c = one-quick c.args.mode c.args.src.now c.args.at c.args.st c.args.next c.quick_at-q.result _ c.quick_at-q.ensures c.if-q-gt0.true c.stepped.ensures
