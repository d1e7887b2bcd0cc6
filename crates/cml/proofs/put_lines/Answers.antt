-- `put_lines` meets its contract: a walk over the rows. Assumes nothing.
use Rattle.made.specs.Made.{tables}
use Rattle.cml.proofs.Walk.{passing-drawn, writing_start, writing-room, writing-on, writing-length, writing-end}
use Rattle.cml.proofs.put_lines.Goals as goal

pub loop-init : goal.loop-init
loop-init c = writing_start (tables c.args.lent.now) _ _ c.requires.lent_value c.requires.lent_in_bounds

pub put_row-next-requires : goal.put_row-next-requires
put_row-next-requires c = record { drawn = passing-drawn c.loop.invariant.passing c.loop-test.true; points_in_bounds = writing-room c.loop.invariant c.loop-test.true }

pub loop-preserved : goal.loop-preserved
loop-preserved c = writing-on c.loop.invariant c.loop-test.true c.rest_of-left.ensures c.put_row-next.ensures

pub shape_of-out : goal.shape_of-out
shape_of-out c = c.loop.invariant.puts.size

pub returns : goal.returns
returns c = record { value = writing-length c.loop.invariant c.loop-test.false; out_after = writing-end c.loop.invariant c.loop-test.false }
