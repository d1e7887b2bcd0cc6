-- `store` meets its contract: the date, the head, the listed borders, the foot, each behind the last. Assumes nothing.
use Rattle.made.specs.Made.{tables}
use Rattle.sup.proofs.DateWays.{date-eight}
use Rattle.sup.proofs.TextWays.{head-asks, listed-narrow, foot-asks, date-room, head-room, listed-room, foot-room, store-done}
use Rattle.sup.proofs.store.Goals as goal

pub put_date-head_at-requires : goal.put_date-head_at-requires
put_date-head_at-requires c = (c.requires.points_value.4, date-eight _ c.requires.points_value.3, date-room c.args.sheet.now.header c.args.sheet.now.count (tables c.args.sheet.now.lent) c.args.figures.now c.args.date.now _ c.head_figures-head.ensures _ c.foot_figures-foot.ensures c.args.out.now c.requires.points_in_bounds)

pub put_lines-listed_at-requires : goal.put_lines-listed_at-requires
put_lines-listed_at-requires c = let a = head-asks c.args.sheet.now.header c.args.sheet.now.count (tables c.args.sheet.now.lent) c.args.figures.now c.requires.points_value_2.1 _ c.head_figures-head.ensures in (a.0, a.1, head-room c.args.sheet.now.header c.args.sheet.now.count (tables c.args.sheet.now.lent) c.args.figures.now c.args.date.now _ c.head_figures-head.ensures _ c.foot_figures-foot.ensures c.args.out.now c.requires.points_in_bounds c.put_date-head_at.ensures)

pub put_listed-foot_at-requires : goal.put_listed-foot_at-requires
put_listed-foot_at-requires c = record { points_value = c.requires.points_value.0; points_value_2 = c.requires.points_value_2.0; points_value_3 = listed-narrow c.args.sheet.now.header c.args.sheet.now.count (tables c.args.sheet.now.lent) c.args.figures.now c.requires.points_value_2.1; points_in_bounds = listed-room c.args.sheet.now.header c.args.sheet.now.count (tables c.args.sheet.now.lent) c.args.figures.now c.args.date.now _ c.head_figures-head.ensures _ c.foot_figures-foot.ensures c.args.out.now c.requires.points_in_bounds c.put_date-head_at.ensures c.put_lines-listed_at.ensures }

pub put_lines-requires : goal.put_lines-requires
put_lines-requires c = let b = foot-asks c.args.sheet.now.header c.args.sheet.now.count (tables c.args.sheet.now.lent) c.args.figures.now c.requires.points_value_2.1 _ c.foot_figures-foot.ensures in (b.0, b.1, foot-room c.args.sheet.now.header c.args.sheet.now.count (tables c.args.sheet.now.lent) c.args.figures.now c.args.date.now _ c.head_figures-head.ensures _ c.foot_figures-foot.ensures c.args.out.now c.requires.points_in_bounds c.put_date-head_at.ensures c.put_lines-listed_at.ensures c.put_listed-foot_at.ensures)

pub returns : goal.returns
returns c = store-done c.args.sheet.now.header c.args.sheet.now.count (tables c.args.sheet.now.lent) c.args.figures.now c.args.date.now _ c.head_figures-head.ensures _ c.foot_figures-foot.ensures c.args.out.now c.requires.points_in_bounds c.put_date-head_at.ensures c.put_lines-listed_at.ensures c.put_listed-foot_at.ensures c.put_lines.ensures
