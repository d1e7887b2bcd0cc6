-- `lines_size` meets its contract: a walk over the rows, which stops past the limit. Assumes nothing.
use native.Mathlib.Omega.{arith}
use Rattle.made.specs.Made.{tables}
use Rattle.cml.proofs.Walk.{passing-drawn, measured-start, measured-most, measured-on, measured-high, measured-end}
use Rattle.cml.proofs.lines_size.Goals as goal

pub loop-init : goal.loop-init
loop-init c = measured-start (tables c.args.lent.now) _ c.requires

pub row_size-total-requires : goal.row_size-total-requires
row_size-total-requires c = passing-drawn c.loop.invariant.passing c.loop-test.true

pub overflow_add-total : goal.overflow_add-total
overflow_add-total c = record { fits = omega (arith, measured-most c.loop.invariant c.loop-test.true c.row_size-total.ensures, c.loop.invariant.small) }

pub returns-then-total-gt-FILE_MOST : goal.returns-then-total-gt-FILE_MOST
returns-then-total-gt-FILE_MOST c = measured-high c.loop.invariant c.loop-test.true c.row_size-total.ensures c.if-total-gt-FILE_MOST.true

pub loop-preserved : goal.loop-preserved
loop-preserved c = measured-on c.loop.invariant c.loop-test.true c.row_size-total.ensures _ c.rest_of-left.ensures c.if-total-gt-FILE_MOST.false

pub returns : goal.returns
returns c = measured-end c.loop.invariant c.loop-test.false
