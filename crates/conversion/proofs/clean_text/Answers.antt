-- `clean_text` meets its contract: the writer writes, or its refusal is a line. Assumes nothing.
use mathlib.Core.Path.{ap, ◌∙◌}
use Rattle.std.specs.Prelude.{Err}
use Rattle.made.specs.Made.{tables}
use Rattle.conversion.proofs.CleanWays.{clean-wrote, clean-none, clean-long, clean-refused}
use Rattle.conversion.proofs.clean_text.Goals as goal

pub returns-in-Ok : goal.returns-in-Ok
returns-in-Ok c =
    let said = clean-wrote c.args.sheet.now.header c.args.sheet.now.count (tables c.args.sheet.now.lent) _ c.args.out.now _ c.write.ensures.value c.write.ensures.out_after _ c.in-Ok.is
    in record { value = said.0; out_after = said.1 }

pub returns-in-Err-NoRoom : goal.returns-in-Err-NoRoom
returns-in-Err-NoRoom c =
    let said = clean-none c.args.sheet.now.header c.args.sheet.now.count (tables c.args.sheet.now.lent) _ c.args.out.now _ c.write.ensures.value c.write.ensures.out_after _ (c.in-Err-NoRoom.is ∙ ap Err c.in-Err-NoRoom.field-0-is)
    in record { value = said.0; out_after = said.1 }

pub returns-in-Err-TooLong : goal.returns-in-Err-TooLong
returns-in-Err-TooLong c = absurd (clean-long c.args.sheet.now.header c.args.sheet.now.count (tables c.args.sheet.now.lent) _ c.args.out.now _ c.write.ensures.value c.write.ensures.out_after c.requires (c.in-Err-TooLong.is ∙ ap Err c.in-Err-TooLong.field-0-is))

pub returns-in-Err-Refused : goal.returns-in-Err-Refused
returns-in-Err-Refused c =
    let said = clean-refused c.args.sheet.now.header c.args.sheet.now.count (tables c.args.sheet.now.lent) _ c.args.out.now _ c.write.ensures.value c.write.ensures.out_after _ (c.in-Err-Refused.is ∙ ap Err c.in-Err-Refused.field-0-is) _ c.fault_of-fault.ensures _ _ c.refused_text.ensures.value c.refused_text.ensures.out_after
    in record { value = said.0; out_after = said.1 }
