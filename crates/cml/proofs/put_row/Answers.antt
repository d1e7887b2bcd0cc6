-- `put_row` meets its contract: the element of a line, or nothing. Assumes nothing.
use Rattle.cml.proofs.LineWays.{is-line, row_room, row_put, row-put-none}
use Rattle.cml.proofs.put_row.Goals as goal

pub put_line-requires : goal.put_line-requires
put_line-requires c = record { drawn = (c.requires.drawn, is-line c.args.rows.now c.args.points.now c.requires.drawn c.count_at.ensures c.if-count_at-eq-LINE_KIND.true); points_in_bounds = row_room c.args.rows.now c.args.points.now c.requires.drawn c.count_at.ensures c.if-count_at-eq-LINE_KIND.true _ _ c.requires.points_in_bounds }

pub returns-then-count_at-eq-LINE_KIND : goal.returns-then-count_at-eq-LINE_KIND
returns-then-count_at-eq-LINE_KIND c = row_put c.args.rows.now c.args.points.now c.requires.drawn c.count_at.ensures c.if-count_at-eq-LINE_KIND.true c.put_line.ensures

pub returns : goal.returns
returns c = row-put-none c.args.rows.now c.args.points.now c.requires.drawn c.count_at.ensures c.if-count_at-eq-LINE_KIND.false _ _
