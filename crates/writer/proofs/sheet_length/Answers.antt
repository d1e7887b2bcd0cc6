-- `sheet_length` meets its contract: header, rows and EOF. Assumes nothing.
use native.Mathlib.Omega.{arith}
use Rattle.made.specs.Made.{tables}
use Rattle.writer.proofs.SheetWays.{judged-is, sheet-size}
use Rattle.heading.proofs.HeadingLaws.{header_is}
use Rattle.writer.proofs.HeaderWays.{header-most}
use Rattle.writer.proofs.sheet_length.Goals as goal

pub header_length-start-requires : goal.header_length-start-requires
header_length-start-requires c = (judged-is c.args.sheet.now.header c.args.sheet.now.count (tables c.args.sheet.now.lent) c.requires).0

pub overflow_add-start : goal.overflow_add-start
overflow_add-start c = omega (arith, c.header_length-start.ensures, header-most c.args.sheet.now.header (header_is c.args.sheet.now.header (judged-is c.args.sheet.now.header c.args.sheet.now.count (tables c.args.sheet.now.lent) c.requires).0))

pub rows_length-requires : goal.rows_length-requires
rows_length-requires c = (omega (arith, c.header_length-start.ensures, header-most c.args.sheet.now.header (header_is c.args.sheet.now.header (judged-is c.args.sheet.now.header c.args.sheet.now.count (tables c.args.sheet.now.lent) c.requires).0)), (judged-is c.args.sheet.now.header c.args.sheet.now.count (tables c.args.sheet.now.lent) c.requires).1)

pub returns : goal.returns
returns c = omega (arith, c.rows_length.ensures, c.header_length-start.ensures, sheet-size c.args.sheet.now.header c.args.sheet.now.count (tables c.args.sheet.now.lent))
