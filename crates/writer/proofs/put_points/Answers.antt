-- `put_points` meets its contract. What is to come are the numbers from `i` on, which are reals. Assumes nothing.
use mathlib.Core.Bool.{true}
use Rattle.writer.proofs.Putting.{putting-start, putting-end, real-asked, real-put}
use Rattle.writer.proofs.RowWays.{points-real, points-room, points_on, points-next, points-over}
use Rattle.writer.proofs.put_points.Goals as goal

pub loop-z-init : goal.loop-z-init
loop-z-init c = (putting-start _ _ _ c.requires.1, c.requires.0)

pub put_real-next-requires : goal.put_real-next-requires
put_real-next-requires c = real-asked _ (points-real c.args.s.now c.loop-z.z-index c.loop-z-test.true c.loop-z.invariant.1) c.loop-z.next _ (points-room c.args.s.now c.loop-z.z-index c.loop-z-test.true c.loop-z.invariant.0)

pub loop-z-preserved : goal.loop-z-preserved
loop-z-preserved c = (points_on c.args.s.now c.loop-z.z-index c.loop-z-test.true c.loop-z.invariant.0 (real-put _ (points-real c.args.s.now c.loop-z.z-index c.loop-z-test.true c.loop-z.invariant.1) c.put_real-next.ensures), points-next c.args.s.now c.loop-z.z-index c.loop-z-test.true c.loop-z.invariant.1)

pub shape_of-out : goal.shape_of-out
shape_of-out c = c.loop-z.invariant.0.size

pub returns : goal.returns
returns c = putting-end c.loop-z.invariant.0 (points-over c.args.s.now c.loop-z.z-index c.loop-z-test.false)
