-- `mask::widths_of` meets its contract. Assumes nothing.
use Rattle.std.proofs.lemmas.Result.{err_from_is_err_and}
use Rattle.mask.proofs.WidthWays.{border-many, outer-refused, outer-fine}
use Rattle.mask.proofs.widths_of.Goals as goal

pub returns-then-v-gt-MOST : goal.returns-then-v-gt-MOST
returns-then-v-gt-MOST c = border-many _ c.args.islands.now c.args.points.now c.if-v-gt-MOST.true

pub returns-in_err-width_of : goal.returns-in_err-width_of
returns-in_err-width_of c =
    let p = err_from_is_err_and c.from_residual.result c.from_residual.ensures.1 in
    rw (p.1, p.2) (outer-refused _ c.args.islands.now _ c.if-v-gt-MOST.false _ c.outer_of-n.ensures _ c.width_of.ensures _ (c.in_err-width_of.was))

pub returns : goal.returns
returns c = outer-fine _ c.args.islands.now _ c.if-v-gt-MOST.false _ c.outer_of-n.ensures _ c.width_of.ensures (c.in_ok-width_of.was) _ c.widths_from.ensures
