-- `lined_sup` meets its contract: 23, then 14, then the text. Assumes nothing.
use mathlib.Core.Path.{refl, sym, ◌∙◌}
use native.Mathlib.Omega.{arith}
use lib.ListN.{length}
use Rattle.laws.proofs.Bits.{back}
use Rattle.made.specs.Made.{tables}
use Rattle.sup.proofs.ListedWays.{listed-held}
use Rattle.sup.proofs.TextWays.{listed-counted, lined-wide, lined-tight, lined-room, lined-whole}
use Rattle.sup.proofs.lined_sup.Goals as goal

pub first_wide_line-wide-requires : goal.first_wide_line-wide-requires
first_wide_line-wide-requires c = record { points_value = (c.requires.points_value.0, c.requires.points_value.1, back _ c.ranges.total.sfits ∙ c.requires.points_value.2); listed_value = (listed-counted c.args.sheet.now.header c.args.sheet.now.count c.args.sheet.now.lent.rows.now c.args.sheet.now.lent.letters.now c.args.sheet.now.lent.islands.now c.args.sheet.now.lent.points.now _ c.sup_count-listed.ensures) }

pub returns-then-wide-ne0 : goal.returns-then-wide-ne0
returns-then-wide-ne0 c = record { value = lined-wide c.args.sheet.now.header c.args.sheet.now.count (tables c.args.sheet.now.lent) c.args.date.now c.args.figures.now (length c.args.out.now) _ c.first_wide_line-wide.ensures c.if-wide-ne0.true; out_after = refl }

pub overflow_add-needed : goal.overflow_add-needed
overflow_add-needed c = omega (arith, listed-held c.args.sheet.now.header c.args.sheet.now.count (tables c.args.sheet.now.lent) c.requires.points_value.0, (listed-counted c.args.sheet.now.header c.args.sheet.now.count c.args.sheet.now.lent.rows.now c.args.sheet.now.lent.letters.now c.args.sheet.now.lent.islands.now c.args.sheet.now.lent.points.now _ c.sup_count-listed.ensures))

pub overflow_mul-needed : goal.overflow_mul-needed
overflow_mul-needed c = omega (arith, listed-held c.args.sheet.now.header c.args.sheet.now.count (tables c.args.sheet.now.lent) c.requires.points_value.0, (listed-counted c.args.sheet.now.header c.args.sheet.now.count c.args.sheet.now.lent.rows.now c.args.sheet.now.lent.letters.now c.args.sheet.now.lent.islands.now c.args.sheet.now.lent.points.now _ c.sup_count-listed.ensures))

pub returns-then-needed-out : goal.returns-then-needed-out
returns-then-needed-out c = record { value = lined-tight c.args.sheet.now.header c.args.sheet.now.count (tables c.args.sheet.now.lent) c.args.date.now c.args.figures.now (length c.args.out.now) _ c.first_wide_line-wide.ensures c.if-wide-ne0.false c.requires.points_value.4 c.requires.points_value_2 c.requires.points_value.3 _ (listed-counted c.args.sheet.now.header c.args.sheet.now.count c.args.sheet.now.lent.rows.now c.args.sheet.now.lent.letters.now c.args.sheet.now.lent.islands.now c.args.sheet.now.lent.points.now _ c.sup_count-listed.ensures) c.if-needed-out.true; out_after = refl }

pub store-requires : goal.store-requires
store-requires c = record { points_value = (c.requires.points_value.0, c.requires.points_value.1, back _ c.ranges.total.sfits ∙ c.requires.points_value.2, c.requires.points_value.3, c.requires.points_value.4); points_value_2 = (c.requires.points_value_2, sym c.first_wide_line-wide.ensures ∙ c.if-wide-ne0.false); points_in_bounds = lined-room c.args.sheet.now.header c.args.sheet.now.count (tables c.args.sheet.now.lent) c.args.date.now c.args.figures.now (length c.args.out.now) _ c.first_wide_line-wide.ensures c.if-wide-ne0.false c.requires.points_value.4 c.requires.points_value_2 c.requires.points_value.3 _ (listed-counted c.args.sheet.now.header c.args.sheet.now.count c.args.sheet.now.lent.rows.now c.args.sheet.now.lent.letters.now c.args.sheet.now.lent.islands.now c.args.sheet.now.lent.points.now _ c.sup_count-listed.ensures) c.if-needed-out.false }

pub returns : goal.returns
returns c = record { value = lined-whole c.args.sheet.now.header c.args.sheet.now.count (tables c.args.sheet.now.lent) c.args.date.now c.args.figures.now (length c.args.out.now) _ c.first_wide_line-wide.ensures c.if-wide-ne0.false c.requires.points_value.4 c.requires.points_value_2 c.requires.points_value.3 _ (listed-counted c.args.sheet.now.header c.args.sheet.now.count c.args.sheet.now.lent.rows.now c.args.sheet.now.lent.letters.now c.args.sheet.now.lent.islands.now c.args.sheet.now.lent.points.now _ c.sup_count-listed.ensures) c.if-needed-out.false; out_after = c.store.ensures }
