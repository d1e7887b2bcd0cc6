-- `row::seek` meets its contract: the sheet is judged, then the row is found. Assumes nothing.
use Rattle.std.proofs.Common.{sym, ◌∙◌}
use Rattle.made.specs.Made.{tables}
use Rattle.row.proofs.SeekWays.{sought_at, own_held}
use Rattle.row.proofs.seek.Goals as goal

pub stand_at-requires : goal.stand_at-requires
stand_at-requires c = own_held _ _ (tables c.args.sheet.now.lent) _ (sym c.judge.ensures ∙ c.in_ok-judge.was) c.if-row-sheet.true

pub returns-then-row-sheet : goal.returns-then-row-sheet
returns-then-row-sheet c = sought_at _ _ (tables c.args.sheet.now.lent) _ (sym c.judge.ensures ∙ c.in_ok-judge.was) c.if-row-sheet.true _ c.stand_at.ensures
