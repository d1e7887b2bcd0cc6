-- `first_wide_listed` meets its contract: where no listed figure is wide there is no such line. Assumes nothing.
use Rattle.made.specs.Made.{tables}
use Rattle.sup.proofs.TextWays.{none-listed}
use Rattle.sup.proofs.listed.first_wide_listed.Goals as goal

pub returns : goal.returns
returns c = none-listed c.args.sheet.now.header c.args.sheet.now.count (tables c.args.sheet.now.lent) _ c.is_any_wide.ensures c.if-is_any_wide.false
