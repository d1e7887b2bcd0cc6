-- `reader::is_shut_there` meets its contract. Assumes nothing.
use mathlib.Core.Bool.{not}
use mathlib.Core.Path.{ap}
use Rattle.reader.proofs.RingLaws.{shut_open, shut-same}
use Rattle.reader.proofs.ring_runs.is_shut_there.Goals as goal

pub returns-then-not-closed : goal.returns-then-not-closed
returns-then-not-closed c = λ _. shut_open c.args.src.now c.args.at c.args.width c.args.last c.args.closed (ap not c.if-not-closed.true)

pub returns : goal.returns
returns c = shut-same c.args.src.now c.args.at c.args.width c.args.last c.args.closed c.is_same_real-x.result c.is_same_real-y.result c.is_same_real-x.ensures c.is_same_real-y.ensures
