-- `is_any_wide` meets its contract: none of the rows behind the walk has a wide figure. Assumes nothing.
use Rattle.made.specs.Made.{tables}
use Rattle.sup.proofs.ListedWays.{searching-start, searching-end, searching-found, searching-on}
use Rattle.sup.proofs.listed.is_any_wide.Goals as goal

pub loop-init : goal.loop-init
loop-init c = searching-start c.args.sheet.now.header c.args.sheet.now.count (tables c.args.sheet.now.lent)

pub returns-then-is_wide_at : goal.returns-then-is_wide_at
returns-then-is_wide_at c = searching-found c.loop.invariant c.loop-test.true _ c.is_wide_at.ensures c.if-is_wide_at.true

pub loop-preserved : goal.loop-preserved
loop-preserved c = searching-on c.loop.invariant c.loop-test.true _ c.is_wide_at.ensures c.if-is_wide_at.false _ c.stand_next-d.ensures

pub returns : goal.returns
returns c = searching-end c.loop.invariant c.loop-test.false
