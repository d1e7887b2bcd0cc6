-- `is_right_line` meets its contract: one answer for each test. Assumes nothing.
use mathlib.Core.Bool.{not}
use mathlib.Core.Path.{ap}
use borrow.Author.Rules.{rules}
use Rattle.supline.proofs.RightWays.{line-narrow, line-ways}
use Rattle.supline.proofs.is_right_line.Goals as goal

pub returns-then-not-is_narrow : goal.returns-then-not-is_narrow
returns-then-not-is_narrow c = search (line-ways, rules)

pub is_line-requires : goal.is_line-requires
is_line-requires c = line-narrow c.figure_in-figure.result _ c.is_narrow.ensures (ap not c.if-not-is_narrow.false)

pub returns-then-not-is_line : goal.returns-then-not-is_line
returns-then-not-is_line c = search (line-ways, rules)

pub is_near-requires : goal.is_near-requires
is_near-requires c = line-narrow c.figure_in-figure.result _ c.is_narrow.ensures (ap not c.if-not-is_narrow.false)

pub returns : goal.returns
returns c = search (line-ways, rules)
