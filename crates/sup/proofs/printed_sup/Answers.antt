-- `printed_sup` meets its contract: 18 for the combined total, then the lines. Assumes nothing.
use mathlib.Core.Path.{refl, ◌∙◌}
use lib.ListN.{length}
use Rattle.laws.proofs.Bits.{back}
use Rattle.made.specs.Made.{tables}
use Rattle.sup.proofs.TextWays.{total-past, total-is, total-small, total-on}
use Rattle.sup.proofs.printed_sup.Goals as goal

pub lined_sup-requires : goal.lined_sup-requires
lined_sup-requires c = record { points_value = (c.requires.points_value.0, c.requires.points_value.1, back _ (total-small c.args.sheet.now.header c.args.sheet.now.count (tables c.args.sheet.now.lent) c.args.date.now c.args.figures.now (length c.args.out.now) _ c.sheet_total.ensures _ c.in-Some.is) ∙ total-is c.args.sheet.now.header c.args.sheet.now.count (tables c.args.sheet.now.lent) c.args.date.now c.args.figures.now (length c.args.out.now) _ c.sheet_total.ensures _ c.in-Some.is, c.requires.points_value.2, c.requires.points_value.3); points_value_2 = c.requires.points_value_2 }

pub returns-in_default : goal.returns-in_default
returns-in_default c = record { value = total-past c.args.sheet.now.header c.args.sheet.now.count (tables c.args.sheet.now.lent) c.args.date.now c.args.figures.now (length c.args.out.now) _ c.sheet_total.ensures c.in_default.is; out_after = refl }

pub returns : goal.returns
returns c = record { value = c.lined_sup.ensures.value ∙ total-on c.args.sheet.now.header c.args.sheet.now.count (tables c.args.sheet.now.lent) c.args.date.now c.args.figures.now (length c.args.out.now) _ c.sheet_total.ensures _ c.in-Some.is; out_after = c.lined_sup.ensures.out_after }
