-- `crossing::boxes_overlap` meets its contract: x decides alone where it fails, and else y.
use mathlib.Core.Path.{◌∙◌}
use Rattle.laws.proofs.Bits.{back}
use Rattle.laws.proofs.Chains.{and-on, and-off}
use Rattle.crossing.specs.Edges.{boxes-overlap, spans-overlap}
use Rattle.crossing.proofs.boxes_overlap.Goals as goal

pub returns-then-spans_overlap : goal.returns-then-spans_overlap
unfolding boxes-overlap
returns-then-spans_overlap c =
    let a = c.args.a in let b = c.args.b in let e = c.args.c in let d = c.args.d in
    and-on (spans-overlap a.x b.x e.x d.x) (spans-overlap a.y b.y e.y d.y) (cc (back c.args.a.x c.well_formed.0.1.1.0.1, back c.args.b.x c.well_formed.1.0.1.1.0.1, back c.args.c.x c.well_formed.1.1.0.1.1.0.1, back c.args.d.x c.well_formed.1.1.1.0.1.1.0.1)) (cc (back c.args.a.y c.well_formed.0.1.1.1.0.1, back c.args.b.y c.well_formed.1.0.1.1.1.0.1, back c.args.c.y c.well_formed.1.1.0.1.1.1.0.1, back c.args.d.y c.well_formed.1.1.1.0.1.1.1.0.1))

pub returns-else-spans_overlap : goal.returns-else-spans_overlap
unfolding boxes-overlap
returns-else-spans_overlap c =
    let a = c.args.a in let b = c.args.b in let e = c.args.c in let d = c.args.d in
    c.if-spans_overlap.false ∙ and-off (spans-overlap a.x b.x e.x d.x) (spans-overlap a.y b.y e.y d.y) (cc (back c.args.a.x c.well_formed.0.1.1.0.1, back c.args.b.x c.well_formed.1.0.1.1.0.1, back c.args.c.x c.well_formed.1.1.0.1.1.0.1, back c.args.d.x c.well_formed.1.1.1.0.1.1.0.1))
