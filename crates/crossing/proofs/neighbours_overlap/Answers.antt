-- `crossing::neighbours_overlap` meets its contract: the cross product decides alone where it is not 0, and else the inner product.
use mathlib.Core.Path.{◌≡◌, refl, ◌∙◌}
use lib.IntN.{pos}
use lib.Signed.{lt_z}
use mathlib.Core.Bool.{true, false}
use Rattle.laws.proofs.Chains.{and-on, and-off}
use Rattle.laws.specs.Whole.{eq_z}
use Rattle.laws.proofs.Bits.{back, bits-yes, bits-no, bits-eqb}
use Rattle.crossing.specs.Edges.{neighbours-overlap, side, dot}
use Rattle.crossing.proofs.neighbours_overlap.Goals as goal

pub returns-then-side_of-eq0 : goal.returns-then-side_of-eq0
unfolding neighbours-overlap
returns-then-side_of-eq0 c =
    let z = c.side_of in
    let t : eq_z z.result (pos 0) ≡ true = bits-yes z.result (pos 0) (back z.result z.type_inv) refl c.if-side_of-eq0.true in
    and-on (eq_z (side c.args.b c.args.a c.args.c) (pos 0)) (lt_z (pos 0) (dot c.args.a c.args.b c.args.c))
    (rw (← z.ensures) t)
    (cc (back c.dot_of.result c.dot_of.type_inv))

pub returns-else-side_of-eq0 : goal.returns-else-side_of-eq0
unfolding neighbours-overlap
returns-else-side_of-eq0 c =
    let z = c.side_of in
    let e : eq_z z.result (pos 0) ≡ false = bits-no z.result (pos 0) c.if-side_of-eq0.false in
    bits-eqb z.result (pos 0) (back z.result z.type_inv) refl ∙ e ∙ and-off (eq_z (side c.args.b c.args.a c.args.c) (pos 0)) (lt_z (pos 0) (dot c.args.a c.args.b c.args.c))
    (rw (← z.ensures) e)
