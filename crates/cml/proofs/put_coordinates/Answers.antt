-- `put_coordinates` meets its contract: a loop over the coordinates. Assumes nothing.
use mathlib.Core.Bool.{true}
use Rattle.writer.proofs.Putting.{putting-start, putting-end}
use Rattle.cml.proofs.PairWays.{coordinate-asks, coordinates-on, rest-real, coordinates-over}
use Rattle.cml.proofs.put_coordinates.Goals as goal

pub loop-j-init : goal.loop-j-init
loop-j-init c = (putting-start _ _ _ c.requires.s_in_bounds, c.requires.s_value)

pub put_coordinate-next-requires : goal.put_coordinate-next-requires
put_coordinate-next-requires c = coordinate-asks c.args.s.now _ c.loop-j-test.true c.loop-j.invariant.1 c.loop-j.invariant.0

pub loop-j-preserved : goal.loop-j-preserved
loop-j-preserved c = (coordinates-on c.args.s.now _ c.loop-j-test.true c.loop-j.invariant.1 c.loop-j.invariant.0 c.put_coordinate-next.ensures, rest-real c.args.s.now _ c.loop-j-test.true c.loop-j.invariant.1)

pub shape_of-out : goal.shape_of-out
shape_of-out c = c.loop-j.invariant.0.size

pub returns : goal.returns
returns c = putting-end c.loop-j.invariant.0 (coordinates-over c.args.s.now _ c.loop-j-test.false)
