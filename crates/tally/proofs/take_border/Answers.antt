-- `tally::take_border` meets its contract: the ways are in `TakeWays`. Assumes nothing.
use mathlib.Core.Path.{◌∙◌, ap}
use borrow.Author.Rules.{rules}
use Rattle.std.proofs.Common.{Err}
use Rattle.tally.proofs.TakeWays.{letters-part, islands-part, border-missing, border-wide, border-taken, border-full}
use Rattle.tally.proofs.take_border.Goals as goal

pub slice_bounds-class_of-end : goal.slice_bounds-class_of-end
slice_bounds-class_of-end c = search (letters-part, rules)

pub slice_bounds-areas_of-end : goal.slice_bounds-areas_of-end
slice_bounds-areas_of-end c = search (islands-part, rules)

pub returns-in-Err-Missing : goal.returns-in-Err-Missing
returns-in-Err-Missing c =
    border-missing c.args.header c.args.row c.args.part.now.rows.now c.args.part.now.letters.now c.args.part.now.islands.now c.args.part.now.points.now
    c.border_with-border.result _ c.border_with-border.ensures c.count_at-l.result c.count_at-l.ensures c.class_of.ensures c.args.figures.now c.requires.0 c.areas_of.result c.areas_of.ensures (c.in-Err-Missing.is ∙ ap Err c.in-Err-Missing.field-0-is)

pub returns-in-Err-Wide : goal.returns-in-Err-Wide
returns-in-Err-Wide c =
    border-wide c.args.header c.args.row c.args.part.now.rows.now c.args.part.now.letters.now c.args.part.now.islands.now c.args.part.now.points.now
    c.border_with-border.result _ c.border_with-border.ensures c.count_at-l.result c.count_at-l.ensures c.class_of.ensures c.args.figures.now c.requires.0 c.areas_of.result c.areas_of.ensures (c.in-Err-Wide.is ∙ ap Err c.in-Err-Wide.field-0-is)

pub returns-then-grow : goal.returns-then-grow
returns-then-grow c =
    border-taken c.args.header c.args.row c.args.part.now.rows.now c.args.part.now.letters.now c.args.part.now.islands.now c.args.part.now.points.now
    c.border_with-border.result _ c.border_with-border.ensures c.count_at-l.result c.count_at-l.ensures c.class_of.ensures c.args.figures.now c.requires.0 c.areas_of.result c.areas_of.ensures c.in-Ok.areas.outer c.in-Ok.areas.inner c.in-Ok.is c.grow.ensures c.if-grow.true

pub returns-else-grow : goal.returns-else-grow
returns-else-grow c =
    border-full c.args.header c.args.row c.args.part.now.rows.now c.args.part.now.letters.now c.args.part.now.islands.now c.args.part.now.points.now
    c.border_with-border.result _ c.border_with-border.ensures c.count_at-l.result c.count_at-l.ensures c.class_of.ensures c.args.figures.now c.requires.0 c.areas_of.result c.areas_of.ensures c.in-Ok.areas.outer c.in-Ok.areas.inner c.in-Ok.is c.grow.ensures c.if-grow.false
