-- `tally::tally_rows` meets its contract. What is to come is the tally of the rows that are left, which are well made. Assumes nothing.
use Rattle.made.specs.Made.{tables}
use Rattle.tally.proofs.Tallying.{tallying-start, tallying-made, tallying-stop, tallying-on, tallying-end}
use Rattle.tally.proofs.tally_rows.Goals as goal

pub loop-k-init : goal.loop-k-init
loop-k-init c = tallying-start c.args.sheet.now.header (tables c.args.sheet.now.lent) c.args.sheet.now.count c.requires

pub take_row-requires : goal.take_row-requires
take_row-requires c = (c.loop-k.invariant.good, tallying-made c.loop-k.invariant c.loop-k-test.true)

pub returns-in-Err : goal.returns-in-Err
returns-in-Err c = tallying-stop c.loop-k.invariant c.loop-k-test.true c.take_row.ensures c.in-Err.refused c.in-Err.is c.empty.result c.empty.ensures

pub loop-k-preserved : goal.loop-k-preserved
loop-k-preserved c = tallying-on c.loop-k.invariant c.loop-k-test.true c.take_row.ensures c.in_default.is _ c.rest_of-left.ensures

pub returns : goal.returns
returns c = tallying-end c.loop-k.invariant c.loop-k-test.false
