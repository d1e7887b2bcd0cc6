-- `put_islands` meets its contract. What is to come are the counts from `i` on, whose sum is an integer too. Assumes nothing.
use Rattle.writer.proofs.Putting.{putting-start, putting-end}
use Rattle.writer.proofs.RowWays.{islands-most, islands-room, islands-on, islands-next, islands-over}
use Rattle.writer.proofs.put_islands.Goals as goal

pub loop-n-init : goal.loop-n-init
loop-n-init c = (putting-start _ _ _ c.requires.1, c.requires.0)

pub put_integer-next-requires : goal.put_integer-next-requires
put_integer-next-requires c = (islands-most c.args.s.now c.loop-n.n-index c.loop-n-test.true _ c.from.ensures c.loop-n.invariant.1, islands-room c.args.s.now c.loop-n.n-index c.loop-n-test.true _ c.from.ensures c.loop-n.invariant.0)

pub loop-n-preserved : goal.loop-n-preserved
loop-n-preserved c = (islands-on c.args.s.now c.loop-n.n-index c.loop-n-test.true _ c.from.ensures c.loop-n.invariant.0 c.put_integer-next.ensures, islands-next c.args.s.now c.loop-n.n-index c.loop-n-test.true c.loop-n.invariant.1)

pub shape_of-out : goal.shape_of-out
shape_of-out c = c.loop-n.invariant.0.size

pub returns : goal.returns
returns c = putting-end c.loop-n.invariant.0 (islands-over c.args.s.now c.loop-n.n-index c.loop-n-test.false)
