-- `put_sheet` meets its contract: header, rows and EOF, each behind the last. Assumes nothing.
use Rattle.made.specs.Made.{tables}
use Rattle.writer.proofs.SheetWays.{judged-is, sheet-header-room, sheet-rows-room, sheet-end-room, sheet-put}
use Rattle.writer.proofs.put_sheet.Goals as goal

pub put_header-header_end-requires : goal.put_header-header_end-requires
put_header-header_end-requires c = ((judged-is c.args.sheet.now.header c.args.sheet.now.count (tables c.args.sheet.now.lent) c.requires.sheet_value).0, sheet-header-room c.args.sheet.now.header c.args.sheet.now.count (tables c.args.sheet.now.lent) c.args.out.now c.requires.sheet_in_bounds)

pub put_rows-rows_end-requires : goal.put_rows-rows_end-requires
put_rows-rows_end-requires c = record { lent_value = (judged-is c.args.sheet.now.header c.args.sheet.now.count (tables c.args.sheet.now.lent) c.requires.sheet_value).1; lent_in_bounds = sheet-rows-room c.args.sheet.now.header c.args.sheet.now.count (tables c.args.sheet.now.lent) c.args.out.now c.requires.sheet_in_bounds c.put_header-header_end.ensures }

pub put_line-requires : goal.put_line-requires
put_line-requires c = sheet-end-room c.args.sheet.now.header c.args.sheet.now.count (tables c.args.sheet.now.lent) c.args.out.now c.requires.sheet_in_bounds c.put_header-header_end.ensures c.put_rows-rows_end.ensures

pub returns : goal.returns
returns c = sheet-put c.args.sheet.now.header c.args.sheet.now.count (tables c.args.sheet.now.lent) c.args.out.now c.requires.sheet_in_bounds c.put_header-header_end.ensures c.put_rows-rows_end.ensures c.put_line.ensures
