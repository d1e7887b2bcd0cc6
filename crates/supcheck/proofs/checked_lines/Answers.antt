-- `checked_lines` meets its contract: a wrong line, bytes behind the last, or neither. Assumes nothing.
use mathlib.Core.Path.{◌∙◌}
use native.Mathlib.Omega.{arith}
use Rattle.laws.proofs.Bits.{back}
use Rattle.made.specs.Made.{tables}
use Rattle.sup.proofs.ListedWays.{listed-held}
use Rattle.sup.proofs.TextWays.{listed-counted}
use Rattle.supcheck.proofs.CheckedWays.{right-few, lines-wrong, bytes-behind, lines-accepted}
use Rattle.supcheck.proofs.checked_lines.Goals as goal
use Rattle.supcheck.proofs.checked_lines.Goals.{then-right-listed-via-then-right-listed, then-right-listed-via-else-right-listed+then-s-right}

pub right_count-right-requires : goal.right_count-right-requires
right_count-right-requires c = record { points_value = (c.requires.0, c.requires.1, c.requires.2, back _ c.ranges.total.sfits ∙ c.requires.3); listed_value = (listed-counted c.args.sheet.now.header c.args.sheet.now.count c.args.sheet.now.lent.rows.now c.args.sheet.now.lent.letters.now c.args.sheet.now.lent.islands.now c.args.sheet.now.lent.points.now _ c.sup_count-listed.ensures) }

pub overflow_add-listed : goal.overflow_add-listed
overflow_add-listed c = omega (arith, listed-held c.args.sheet.now.header c.args.sheet.now.count (tables c.args.sheet.now.lent) c.requires.0, (listed-counted c.args.sheet.now.header c.args.sheet.now.count c.args.sheet.now.lent.rows.now c.args.sheet.now.lent.letters.now c.args.sheet.now.lent.islands.now c.args.sheet.now.lent.points.now _ c.sup_count-listed.ensures))

pub overflow_add-result : goal.overflow_add-result
overflow_add-result c = omega (arith, listed-held c.args.sheet.now.header c.args.sheet.now.count (tables c.args.sheet.now.lent) c.requires.0, (listed-counted c.args.sheet.now.header c.args.sheet.now.count c.args.sheet.now.lent.rows.now c.args.sheet.now.lent.letters.now c.args.sheet.now.lent.islands.now c.args.sheet.now.lent.points.now _ c.sup_count-listed.ensures), right-few c.args.sheet.now.header c.args.sheet.now.count (tables c.args.sheet.now.lent) c.args.figures.now c.args.s.now _ (listed-counted c.args.sheet.now.header c.args.sheet.now.count c.args.sheet.now.lent.rows.now c.args.sheet.now.lent.letters.now c.args.sheet.now.lent.islands.now c.args.sheet.now.lent.points.now _ c.sup_count-listed.ensures) _ c.right_count-right.ensures)

pub returns-then-right-listed : goal.returns-then-right-listed
returns-then-right-listed c =
    elim c.then-right-listed.branch [
      | then-right-listed-via-then-right-listed w ↦ lines-wrong c.args.sheet.now.header c.args.sheet.now.count (tables c.args.sheet.now.lent) c.args.figures.now c.args.s.now _ (listed-counted c.args.sheet.now.header c.args.sheet.now.count c.args.sheet.now.lent.rows.now c.args.sheet.now.lent.letters.now c.args.sheet.now.lent.islands.now c.args.sheet.now.lent.points.now _ c.sup_count-listed.ensures) _ c.right_count-right.ensures w.if-right-listed.true
      | then-right-listed-via-else-right-listed+then-s-right w ↦ bytes-behind c.args.sheet.now.header c.args.sheet.now.count (tables c.args.sheet.now.lent) c.args.figures.now c.args.s.now _ (listed-counted c.args.sheet.now.header c.args.sheet.now.count c.args.sheet.now.lent.rows.now c.args.sheet.now.lent.letters.now c.args.sheet.now.lent.islands.now c.args.sheet.now.lent.points.now _ c.sup_count-listed.ensures) _ c.right_count-right.ensures w.if-right-listed.false w.if-s-right.true
    ]

pub overflow_mul-right : goal.overflow_mul-right
overflow_mul-right c = omega (arith, listed-held c.args.sheet.now.header c.args.sheet.now.count (tables c.args.sheet.now.lent) c.requires.0, (listed-counted c.args.sheet.now.header c.args.sheet.now.count c.args.sheet.now.lent.rows.now c.args.sheet.now.lent.letters.now c.args.sheet.now.lent.islands.now c.args.sheet.now.lent.points.now _ c.sup_count-listed.ensures), right-few c.args.sheet.now.header c.args.sheet.now.count (tables c.args.sheet.now.lent) c.args.figures.now c.args.s.now _ (listed-counted c.args.sheet.now.header c.args.sheet.now.count c.args.sheet.now.lent.rows.now c.args.sheet.now.lent.letters.now c.args.sheet.now.lent.islands.now c.args.sheet.now.lent.points.now _ c.sup_count-listed.ensures) _ c.right_count-right.ensures)

pub returns : goal.returns
returns c = lines-accepted c.args.sheet.now.header c.args.sheet.now.count (tables c.args.sheet.now.lent) c.args.figures.now c.args.s.now _ (listed-counted c.args.sheet.now.header c.args.sheet.now.count c.args.sheet.now.lent.rows.now c.args.sheet.now.lent.letters.now c.args.sheet.now.lent.islands.now c.args.sheet.now.lent.points.now _ c.sup_count-listed.ensures) _ c.right_count-right.ensures c.if-right-listed.false c.if-s-right.false
