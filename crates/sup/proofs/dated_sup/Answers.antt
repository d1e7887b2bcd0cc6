-- `dated_sup` meets its contract: 21, then 22, then the totals. Assumes nothing.
use mathlib.Core.Bool.{not}
use mathlib.Core.Path.{refl, sym, ◌∙◌, ap}
use lib.ListN.{length}
use Rattle.made.specs.Made.{tables}
use Rattle.sup.proofs.TextWays.{long-known, date-bad, date-good, code-long, codes-fine}
use Rattle.sup.proofs.dated_sup.Goals as goal

pub returns-then-not-is_date : goal.returns-then-not-is_date
returns-then-not-is_date c = record { value = date-bad c.args.sheet.now.header c.args.sheet.now.count (tables c.args.sheet.now.lent) c.args.date.now c.args.figures.now (length c.args.out.now) _ c.is_date.ensures (ap not c.if-not-is_date.true); out_after = refl }

pub printed_sup-requires : goal.printed_sup-requires
printed_sup-requires c = record { points_value = (c.requires.0, c.requires.1, date-good c.args.sheet.now.header c.args.sheet.now.count (tables c.args.sheet.now.lent) c.args.date.now c.args.figures.now (length c.args.out.now) _ c.is_date.ensures (ap not c.if-not-is_date.false) _ (long-known c.args.sheet.now.header c.args.sheet.now.count c.args.sheet.now.lent.rows.now c.args.sheet.now.lent.letters.now c.args.sheet.now.lent.islands.now c.args.sheet.now.lent.points.now _ c.first_long.ensures), c.requires.2); points_value_2 = sym (long-known c.args.sheet.now.header c.args.sheet.now.count c.args.sheet.now.lent.rows.now c.args.sheet.now.lent.letters.now c.args.sheet.now.lent.islands.now c.args.sheet.now.lent.points.now _ c.first_long.ensures) ∙ c.in-None.is }

pub returns-in-Some : goal.returns-in-Some
returns-in-Some c = record { value = code-long c.args.sheet.now.header c.args.sheet.now.count (tables c.args.sheet.now.lent) c.args.date.now c.args.figures.now (length c.args.out.now) _ c.is_date.ensures (ap not c.if-not-is_date.false) _ (long-known c.args.sheet.now.header c.args.sheet.now.count c.args.sheet.now.lent.rows.now c.args.sheet.now.lent.letters.now c.args.sheet.now.lent.islands.now c.args.sheet.now.lent.points.now _ c.first_long.ensures) _ c.in-Some.is; out_after = refl }

pub returns-in-None : goal.returns-in-None
returns-in-None c = record { value = c.printed_sup.ensures.value ∙ codes-fine c.args.sheet.now.header c.args.sheet.now.count (tables c.args.sheet.now.lent) c.args.date.now c.args.figures.now (length c.args.out.now) _ c.is_date.ensures (ap not c.if-not-is_date.false) _ (long-known c.args.sheet.now.header c.args.sheet.now.count c.args.sheet.now.lent.rows.now c.args.sheet.now.lent.letters.now c.args.sheet.now.lent.islands.now c.args.sheet.now.lent.points.now _ c.first_long.ensures) c.in-None.is; out_after = c.printed_sup.ensures.out_after }
