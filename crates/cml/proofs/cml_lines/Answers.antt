-- `cml_lines` meets its contract: the rows of a sheet that was judged. Assumes nothing.
use Rattle.made.specs.Made.{tables}
use Rattle.cml.proofs.Walk.{judged-lines}
use Rattle.cml.proofs.cml_lines.Goals as goal

pub lines_judged-requires : goal.lines_judged-requires
lines_judged-requires c = judged-lines c.args.sheet.now.header c.args.sheet.now.count (tables c.args.sheet.now.lent) c.judge.ensures c.in_ok-judge.was
