-- `mask::mask_border` meets its contract. Assumes nothing.
use mathlib.Core.Path.{sym, ap, ◌∙◌}
use Rattle.std.specs.Prelude.{Err}
use Rattle.mask.proofs.MaskWays.{side-off, mask-missing, mask-wide, mask-asks, mask-drawn}
use Rattle.mask.proofs.mask_border.Goals as goal

pub returns-then-not-is_cell_side : goal.returns-then-not-is_cell_side
returns-then-not-is_cell_side c = side-off _ _ _ _ _ _ (sym c.is_cell_side.ensures ∙ c.if-not-is_cell_side.true) _ c.blank_of.ensures

pub draw_border-requires : goal.draw_border-requires
draw_border-requires c = mask-asks _ _ _ c.args.cx c.args.cy _ (sym c.is_cell_side.ensures ∙ c.if-not-is_cell_side.false) _ c.widths_of.ensures c.in-Ok.is _ _

pub returns-in-Err-Missing : goal.returns-in-Err-Missing
returns-in-Err-Missing c = mask-missing _ _ _ _ _ _ (sym c.is_cell_side.ensures ∙ c.if-not-is_cell_side.false) _ c.widths_of.ensures (c.in-Err-Missing.is ∙ ap Err c.in-Err-Missing.field-0-is) _ c.blank_of-in-Err-Missing.ensures

pub returns-in-Err-Wide : goal.returns-in-Err-Wide
returns-in-Err-Wide c = mask-wide _ _ _ _ _ _ (sym c.is_cell_side.ensures ∙ c.if-not-is_cell_side.false) _ c.widths_of.ensures (c.in-Err-Wide.is ∙ ap Err c.in-Err-Wide.field-0-is) _ c.blank_of-in-Err-Wide.ensures

pub returns-in-Ok : goal.returns-in-Ok
returns-in-Ok c = mask-drawn _ _ _ _ _ _ (sym c.is_cell_side.ensures ∙ c.if-not-is_cell_side.false) _ c.widths_of.ensures c.in-Ok.is c.ranges.cx c.ranges.cy _ c.draw_border.ensures
