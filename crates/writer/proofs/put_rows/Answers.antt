-- `put_rows` meets its contract. What is to come are the rows that are left, which are well made. Assumes nothing.
use Rattle.made.specs.Made.{tables}
use Rattle.writer.proofs.Walk.{writing_start, writing-made, writing-room, writing-on, writing-end}
use Rattle.writer.proofs.put_rows.Goals as goal

pub loop-init : goal.loop-init
loop-init c = writing_start (tables c.args.lent.now) _ _ _ c.requires.lent_value c.requires.lent_in_bounds

pub put_row-next-requires : goal.put_row-next-requires
put_row-next-requires c = record { part_value = writing-made c.loop.invariant c.loop-test.true; part_in_bounds = writing-room c.loop.invariant c.loop-test.true }

pub loop-preserved : goal.loop-preserved
loop-preserved c = writing-on c.loop.invariant c.loop-test.true c.rest_of-left.ensures c.put_row-next.ensures

pub shape_of-out : goal.shape_of-out
shape_of-out c = c.loop.invariant.puts.size

pub returns : goal.returns
returns c = writing-end c.loop.invariant c.loop-test.false
