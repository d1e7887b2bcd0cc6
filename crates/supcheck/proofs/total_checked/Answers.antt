-- `total_checked` meets its contract: 18 of the combined total before any look at the file. Assumes nothing.
use mathlib.Core.Path.{◌∙◌}
use Rattle.laws.proofs.Bits.{back}
use Rattle.made.specs.Made.{tables}
use Rattle.supcheck.proofs.CheckedWays.{total-past, total-known, total-small, total-on}
use Rattle.supcheck.proofs.total_checked.Goals as goal

pub checked_lines-requires : goal.checked_lines-requires
checked_lines-requires c = (c.requires.0, c.requires.1, c.requires.2, back _ (total-small c.args.sheet.now.header c.args.sheet.now.count (tables c.args.sheet.now.lent) c.args.figures.now c.args.s.now _ c.requires.3 _ c.in-Some.is) ∙ (total-known c.args.sheet.now.header c.args.sheet.now.count (tables c.args.sheet.now.lent) c.args.figures.now c.args.s.now _ c.requires.3 _ c.in-Some.is))

pub returns-in-None : goal.returns-in-None
returns-in-None c = total-past c.args.sheet.now.header c.args.sheet.now.count (tables c.args.sheet.now.lent) c.args.figures.now c.args.s.now _ c.requires.3 c.in-None.is

pub returns-in-Some : goal.returns-in-Some
returns-in-Some c = c.checked_lines.ensures ∙ total-on c.args.sheet.now.header c.args.sheet.now.count (tables c.args.sheet.now.lent) c.args.figures.now c.args.s.now _ c.requires.3 _ c.in-Some.is
