-- `right_count` meets its contract: part by part, each only where the one before is right. Assumes nothing.
use mathlib.Core.Bool.{not}
use mathlib.Core.Path.{◌∙◌, ap}
use native.Mathlib.Omega.{arith}
use Rattle.laws.proofs.Bits.{back}
use Rattle.made.specs.Made.{tables}
use Rattle.supcheck.proofs.AllowingWays.{areas-six, areas-first}
use Rattle.supcheck.proofs.CheckedWays.{count-date, count_head, count-listed, count-foot, foot-few, listed_small}
use Rattle.supcheck.proofs.right_count.Goals as goal

pub returns-then-not-is_right_date : goal.returns-then-not-is_right_date
returns-then-not-is_right_date c = count-date c.args.sheet.now.header c.args.sheet.now.count (tables c.args.sheet.now.lent) c.args.figures.now c.args.s.now _ c.is_right_date.ensures (ap not c.if-not-is_right_date.true)

pub right_head-in_head-requires : goal.right_head-in_head-requires
right_head-in_head-requires c = (c.requires.points_value.1, areas-six _ _ _ c.requires.points_value.2, areas-first c.args.sheet.now.header.kind _ _ c.requires.points_value.2)

pub overflow_add-result : goal.overflow_add-result
overflow_add-result c = omega (arith, c.if-in_head-lt-HEAD_LINES.true)

pub returns-then-in_head-lt-HEAD_LINES : goal.returns-then-in_head-lt-HEAD_LINES
returns-then-in_head-lt-HEAD_LINES c = count_head c.args.sheet.now.header c.args.sheet.now.count (tables c.args.sheet.now.lent) c.args.figures.now c.args.s.now _ c.is_right_date.ensures (ap not c.if-not-is_right_date.false) _ c.right_head-in_head.ensures c.if-in_head-lt-HEAD_LINES.true

pub right_listed-in_list-requires : goal.right_listed-in_list-requires
right_listed-in_list-requires c = c.requires.points_value.0

pub overflow_add-result-then-in_list-listed : goal.overflow_add-result-then-in_list-listed
overflow_add-result-then-in_list-listed c = omega (arith, c.if-in_list-listed.true, listed_small c.args.sheet.now.header c.args.sheet.now.count (tables c.args.sheet.now.lent) c.requires.points_value.0 _ c.requires.listed_value, c.sized.ensures.few)

pub returns-then-in_list-listed : goal.returns-then-in_list-listed
returns-then-in_list-listed c = count-listed c.args.sheet.now.header c.args.sheet.now.count (tables c.args.sheet.now.lent) c.args.figures.now c.args.s.now _ c.is_right_date.ensures (ap not c.if-not-is_right_date.false) _ c.right_head-in_head.ensures c.if-in_head-lt-HEAD_LINES.false _ c.right_listed-in_list.ensures _ c.requires.listed_value c.if-in_list-listed.true

pub overflow_add-result-2 : goal.overflow_add-result-2
overflow_add-result-2 c = omega (arith, listed_small c.args.sheet.now.header c.args.sheet.now.count (tables c.args.sheet.now.lent) c.requires.points_value.0 _ c.requires.listed_value, c.sized.ensures.few)

pub right_foot-requires : goal.right_foot-requires
right_foot-requires c = (c.requires.points_value.1, c.requires.points_value.2, back _ c.ranges.total.sfits ∙ c.requires.points_value.3, omega (arith, listed_small c.args.sheet.now.header c.args.sheet.now.count (tables c.args.sheet.now.lent) c.requires.points_value.0 _ c.requires.listed_value, c.sized.ensures.few))

pub overflow_add-result-3 : goal.overflow_add-result-3
overflow_add-result-3 c = omega (arith, listed_small c.args.sheet.now.header c.args.sheet.now.count (tables c.args.sheet.now.lent) c.requires.points_value.0 _ c.requires.listed_value, c.sized.ensures.few, foot-few _ _ _ _ _ _ c.right_foot.ensures)

pub returns : goal.returns
returns c = count-foot c.args.sheet.now.header c.args.sheet.now.count (tables c.args.sheet.now.lent) c.args.figures.now c.args.s.now _ c.is_right_date.ensures (ap not c.if-not-is_right_date.false) _ c.right_head-in_head.ensures c.if-in_head-lt-HEAD_LINES.false _ c.right_listed-in_list.ensures _ c.requires.listed_value c.if-in_list-listed.false _ c.right_foot.ensures
