-- `rows_length` meets its contract. What is to come are the rows that are left, which are well made. Assumes nothing.
use Rattle.std.proofs.Common.{arith}
use Rattle.made.specs.Made.{tables}
use Rattle.writer.proofs.Walk.{measured-start, measured-numbers, measured-most, measured-on, measured-high, measured-end}
use Rattle.writer.proofs.rows_length.Goals as goal

pub loop-init : goal.loop-init
loop-init c = measured-start (tables c.args.lent.now) _ _ c.requires.0 c.requires.1

pub row_length-total-requires : goal.row_length-total-requires
row_length-total-requires c = measured-numbers c.loop.invariant c.loop-test.true

pub overflow_add-total : goal.overflow_add-total
overflow_add-total c = record { fits = omega (arith, measured-most c.loop.invariant c.loop-test.true c.row_length-total.ensures, c.loop.invariant.small) }

pub returns-then-total-gt-FILE_MOST : goal.returns-then-total-gt-FILE_MOST
returns-then-total-gt-FILE_MOST c = measured-high c.loop.invariant c.loop-test.true c.row_length-total.ensures c.if-total-gt-FILE_MOST.true

pub loop-preserved : goal.loop-preserved
loop-preserved c = measured-on c.loop.invariant c.loop-test.true c.row_length-total.ensures _ c.rest_of-left.ensures c.if-total-gt-FILE_MOST.false

pub returns : goal.returns
returns c = measured-end c.loop.invariant c.loop-test.false
