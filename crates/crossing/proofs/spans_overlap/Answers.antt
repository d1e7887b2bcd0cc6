-- `crossing::spans_overlap` meets its contract: the two tests of the definition, in its order.
use mathlib.Core.Path.{◌∙◌}
use lib.Signed.{le_z}
use mir.Facts.{to_z-of_z}
use Rattle.laws.proofs.Chains.{and-on, and-off}
use Rattle.laws.specs.Whole.{low_z, high_z}
use Rattle.laws.proofs.Bits.{back}
use Rattle.crossing.specs.Edges.{spans-overlap}
use Rattle.crossing.proofs.spans_overlap.Goals as goal

pub returns-then-lower-higher : goal.returns-then-lower-higher
unfolding spans-overlap
returns-then-lower-higher c =
    let a = c.args.a in let b = c.args.b in let cc' = c.args.c in let d = c.args.d in
    and-on (le_z (low_z a b) (high_z cc' d)) (le_z (low_z cc' d) (high_z a b))
    (cc (to_z-of_z c.ranges.a, to_z-of_z c.ranges.b, to_z-of_z c.ranges.c, to_z-of_z c.ranges.d, back c.lower.result c.lower.type_inv, back c.higher.result c.higher.type_inv))
    (cc (to_z-of_z c.ranges.a, to_z-of_z c.ranges.b, to_z-of_z c.ranges.c, to_z-of_z c.ranges.d, back c.lower-then-lower-higher.result c.lower-then-lower-higher.type_inv, back c.higher-then-lower-higher.result c.higher-then-lower-higher.type_inv))

pub returns-else-lower-higher : goal.returns-else-lower-higher
unfolding spans-overlap
returns-else-lower-higher c =
    let a = c.args.a in let b = c.args.b in let cc' = c.args.c in let d = c.args.d in
    c.if-lower-higher.false ∙ and-off (le_z (low_z a b) (high_z cc' d)) (le_z (low_z cc' d) (high_z a b))
    (cc (to_z-of_z c.ranges.a, to_z-of_z c.ranges.b, to_z-of_z c.ranges.c, to_z-of_z c.ranges.d, back c.lower.result c.lower.type_inv, back c.higher.result c.higher.type_inv))
