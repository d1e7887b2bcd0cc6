-- `lines_judged` meets its contract: room at once, or the length and the room, then the text. Assumes nothing.
use mathlib.Core.Path.{refl}
use lib.ListN.{length}
use Rattle.made.specs.Made.{tables}
use Rattle.writer.proofs.SheetWays.{wrote-long, wrote-tight, wrote-room, wrote-whole}
use Rattle.cml.proofs.Walk.{roomy-room, roomy-wrote}
use Rattle.cml.proofs.lines_judged.Goals as goal

pub put_lines-requires : goal.put_lines-requires
put_lines-requires c = record { lent_value = c.requires; lent_in_bounds = roomy-room (tables c.args.lent.now) _ (length c.args.out.now) c.requires c.is_roomy.ensures c.if-is_roomy.true }

pub returns-then-is_roomy : goal.returns-then-is_roomy
returns-then-is_roomy c = record { value = roomy-wrote (tables c.args.lent.now) _ (length c.args.out.now) c.requires c.is_roomy.ensures c.if-is_roomy.true c.put_lines.ensures.value; out_after = c.put_lines.ensures.out_after }

pub returns-then-needed-gt-FILE_MOST : goal.returns-then-needed-gt-FILE_MOST
returns-then-needed-gt-FILE_MOST c = record { value = wrote-long _ (length c.args.out.now) _ c.lines_size-needed.ensures c.if-needed-gt-FILE_MOST.true; out_after = refl }

pub returns-then-needed-out : goal.returns-then-needed-out
returns-then-needed-out c = record { value = wrote-tight _ (length c.args.out.now) _ c.lines_size-needed.ensures c.if-needed-gt-FILE_MOST.false c.if-needed-out.true; out_after = refl }

pub put_lines-requires-2 : goal.put_lines-requires-2
put_lines-requires-2 c = record { lent_value = c.requires; lent_in_bounds = wrote-room _ (length c.args.out.now) _ c.lines_size-needed.ensures c.if-needed-gt-FILE_MOST.false c.if-needed-out.false }

pub returns : goal.returns
returns c = record { value = wrote-whole _ (length c.args.out.now) _ c.lines_size-needed.ensures c.if-needed-gt-FILE_MOST.false c.if-needed-out.false; out_after = c.put_lines-2.ensures.out_after }
