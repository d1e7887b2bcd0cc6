-- `put_classes` meets its contract: what is to come are the lines from class `k` on. Assumes nothing.
use Rattle.listing.proofs.LineWays.{class-room, class-on, classes-end}
use Rattle.listing.proofs.put_classes.Goals as goal

pub put_class-next-requires : goal.put_class-next-requires
put_class-next-requires c = (c.loop-k-test.true, class-room c.args.tally.now c.loop-k.k c.loop-k-test.true c.loop-k.invariant)

pub loop-k-preserved : goal.loop-k-preserved
loop-k-preserved c = class-on c.args.tally.now c.loop-k.k c.loop-k-test.true c.loop-k.invariant c.put_class-next.ensures

pub returns : goal.returns
returns c = classes-end c.args.tally.now c.loop-k.k c.loop-k-test.false c.loop-k.auto.k-end c.loop-k.invariant
