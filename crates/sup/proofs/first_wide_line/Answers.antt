-- `first_wide_line` meets its contract: the head, the listed borders, the foot. Assumes nothing.
use native.Mathlib.Omega.{arith}
use Rattle.made.specs.Made.{tables}
use Rattle.sup.proofs.ListedWays.{listed-held}
use Rattle.sup.proofs.TextWays.{wide-head, wide-list, wide-foot, feet-few}
use Rattle.sup.proofs.first_wide_line.Goals as goal

pub returns-then-in_head-ne0 : goal.returns-then-in_head-ne0
returns-then-in_head-ne0 c = wide-head c.args.sheet.now.header c.args.sheet.now.count (tables c.args.sheet.now.lent) c.args.figures.now _ c.head_figures-head.ensures _ c.first_wide-in_head.ensures c.if-in_head-ne0.true

pub returns-then-in_list-ne0 : goal.returns-then-in_list-ne0
returns-then-in_list-ne0 c = wide-list c.args.sheet.now.header c.args.sheet.now.count (tables c.args.sheet.now.lent) c.args.figures.now _ c.head_figures-head.ensures _ c.first_wide-in_head.ensures c.if-in_head-ne0.false _ c.first_wide_listed-in_list.ensures c.if-in_list-ne0.true

pub overflow_add-listed : goal.overflow_add-listed
overflow_add-listed c = omega (arith, listed-held c.args.sheet.now.header c.args.sheet.now.count (tables c.args.sheet.now.lent) c.requires.points_value.0, c.sized.ensures.few, c.requires.listed_value)

pub first_wide-requires : goal.first_wide-requires
first_wide-requires c = omega (arith, listed-held c.args.sheet.now.header c.args.sheet.now.count (tables c.args.sheet.now.lent) c.requires.points_value.0, c.sized.ensures.few, c.requires.listed_value, feet-few c.args.sheet.now.header c.args.sheet.now.count (tables c.args.sheet.now.lent) c.args.figures.now _ c.foot_figures-foot.ensures)

pub returns : goal.returns
returns c = wide-foot c.args.sheet.now.header c.args.sheet.now.count (tables c.args.sheet.now.lent) c.args.figures.now _ c.head_figures-head.ensures _ c.first_wide-in_head.ensures c.if-in_head-ne0.false _ c.first_wide_listed-in_list.ensures c.if-in_list-ne0.false _ c.foot_figures-foot.ensures _ c.requires.listed_value _ c.first_wide.ensures
