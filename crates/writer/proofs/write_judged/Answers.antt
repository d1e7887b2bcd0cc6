-- `write_judged` meets its contract: length, room, text. Assumes nothing.
use mathlib.Core.Path.{refl}
use lib.ListN.{length}
use Rattle.writer.proofs.SheetWays.{wrote-long, wrote-tight, wrote-room, wrote-whole}
use Rattle.writer.proofs.write_judged.Goals as goal

pub returns-then-needed-gt-FILE_MOST : goal.returns-then-needed-gt-FILE_MOST
returns-then-needed-gt-FILE_MOST c = record { value = wrote-long _ (length c.args.out.now) _ c.sheet_length-needed.ensures c.if-needed-gt-FILE_MOST.true; out_after = refl }

pub returns-then-needed-out : goal.returns-then-needed-out
returns-then-needed-out c = record { value = wrote-tight _ (length c.args.out.now) _ c.sheet_length-needed.ensures c.if-needed-gt-FILE_MOST.false c.if-needed-out.true; out_after = refl }

pub put_sheet-requires : goal.put_sheet-requires
put_sheet-requires c = record { sheet_value = c.requires; sheet_in_bounds = wrote-room _ (length c.args.out.now) _ c.sheet_length-needed.ensures c.if-needed-gt-FILE_MOST.false c.if-needed-out.false }

pub returns : goal.returns
returns c = record { value = wrote-whole _ (length c.args.out.now) _ c.sheet_length-needed.ensures c.if-needed-gt-FILE_MOST.false c.if-needed-out.false; out_after = c.put_sheet.ensures }
