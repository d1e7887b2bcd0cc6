-- `put_first` meets its contract: one line for each kind. Assumes nothing.
use Rattle.writer.proofs.Putting.{line-room, line-put}
use Rattle.writer.proofs.HeaderWays.{first-1, first-2, first-3}
use Rattle.writer.proofs.put_first.Goals as goal

pub put_line-requires : goal.put_line-requires
put_line-requires c = line-room (first-1 c.args.kind c.if-kind-eq1.true) c.args.at _ c.requires.2

pub returns-then-kind-eq1 : goal.returns-then-kind-eq1
returns-then-kind-eq1 c = line-put (first-1 c.args.kind c.if-kind-eq1.true) c.put_line.ensures

pub put_line-requires-then-kind-eq2 : goal.put_line-requires-then-kind-eq2
put_line-requires-then-kind-eq2 c = line-room (first-2 c.args.kind c.if-kind-eq2.true) c.args.at _ c.requires.2

pub returns-then-kind-eq2 : goal.returns-then-kind-eq2
returns-then-kind-eq2 c = line-put (first-2 c.args.kind c.if-kind-eq2.true) c.put_line-then-kind-eq2.ensures

pub put_line-requires-2 : goal.put_line-requires-2
put_line-requires-2 c = line-room (first-3 c.args.kind c.requires.0 c.requires.1 c.if-kind-eq1.false c.if-kind-eq2.false) c.args.at _ c.requires.2

pub returns : goal.returns
returns c = line-put (first-3 c.args.kind c.requires.0 c.requires.1 c.if-kind-eq1.false c.if-kind-eq2.false) c.put_line-2.ensures
