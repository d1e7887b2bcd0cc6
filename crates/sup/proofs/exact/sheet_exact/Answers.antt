-- `sheet_exact` meets its contract: the tally, and what is made of it. Assumes nothing.
use Rattle.made.specs.Made.{tables}
use Rattle.sup.proofs.TextWays.{exact-good, exact-is}
use Rattle.sup.proofs.exact.sheet_exact.Goals as goal

pub sheet_total-requires : goal.sheet_total-requires
sheet_total-requires c = exact-good c.args.sheet.now.header c.args.sheet.now.count (tables c.args.sheet.now.lent) _ c.tally_sheet-taken.ensures

pub areas_in-requires : goal.areas_in-requires
areas_in-requires c = exact-good c.args.sheet.now.header c.args.sheet.now.count (tables c.args.sheet.now.lent) _ c.tally_sheet-taken.ensures

pub returns : goal.returns
returns c = exact-is c.args.sheet.now.header c.args.sheet.now.count (tables c.args.sheet.now.lent) _ c.tally_sheet-taken.ensures _ c.sheet_total.ensures _ c.areas_in.ensures
