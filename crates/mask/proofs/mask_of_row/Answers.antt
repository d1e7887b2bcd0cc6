-- `mask::mask_of_row` meets its contract. Assumes nothing.
use Rattle.made.specs.Made.{tables}
use Rattle.area.proofs.QuestionWays.{own-count}
use Rattle.mask.proofs.MaskWays.{row-no-border, row-mask}
use Rattle.mask.proofs.mask_of_row.Goals as goal

pub returns-then-count_at-ne-BORDER : goal.returns-then-count_at-ne-BORDER
returns-then-count_at-ne-BORDER c = row-no-border (tables c.args.part.now) _ _ _ _ c.count_at.ensures c.if-count_at-ne-BORDER.true _ c.blank_of.ensures

pub slice_bounds-mask_border-end : goal.slice_bounds-mask_border-end
slice_bounds-mask_border-end c = own-count _ c.args.part.now.rows.now _ c.count_at-i.ensures c.requires

pub returns : goal.returns
returns c = row-mask (tables c.args.part.now) _ _ _ _ c.count_at.ensures c.if-count_at-ne-BORDER.false _ _ c.count_at-i.ensures c.count_at-v.ensures c.ranges.cx c.ranges.cy _ c.mask_border.ensures
