-- `mask::mask_of` meets its contract. Assumes nothing.
use mathlib.Core.Path.{ap, ◌∙◌}
use Rattle.std.specs.Prelude.{Err}
use Rattle.made.specs.Made.{tables}
use Rattle.row.proofs.SeekLaws.{stood}
use Rattle.area.proofs.QuestionWays.{stood-islands}
use Rattle.mask.proofs.MaskWays.{at-refused, at-no-row, at-found}
use Rattle.mask.proofs.mask_of.Goals as goal

pub mask_of_row-requires : goal.mask_of_row-requires
mask_of_row-requires c = stood-islands _ _ (tables c.args.sheet.now.lent) _ _ (stood _ _ (tables c.args.sheet.now.lent) _ _ _ c.seek.ensures c.in-Ok.is) _ c.left_at.ensures

pub returns-in-Err-Refused : goal.returns-in-Err-Refused
returns-in-Err-Refused c = at-refused _ _ (tables c.args.sheet.now.lent) _ _ _ _ _ c.seek.ensures _ (c.in-Err-Refused.is ∙ ap Err c.in-Err-Refused.field-0-is) _ c.blank_of.ensures

pub returns-in-Err-Missing : goal.returns-in-Err-Missing
returns-in-Err-Missing c = at-no-row _ _ (tables c.args.sheet.now.lent) _ _ _ _ _ c.seek.ensures (c.in-Err-Missing.is ∙ ap Err c.in-Err-Missing.field-0-is) _ c.blank_of-in-Err-Missing.ensures

pub returns-in-Ok : goal.returns-in-Ok
returns-in-Ok c = at-found _ _ (tables c.args.sheet.now.lent) _ _ _ _ _ c.seek.ensures c.ranges.cx c.ranges.cy c.ranges.side _ c.in-Ok.is _ c.count_of.ensures _ c.left_at.ensures _ c.mask_of_row.ensures
