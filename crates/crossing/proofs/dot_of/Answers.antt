-- `crossing::dot_of` meets its contract: each difference is within `span`, since the points are close, and so reads back. What a struct's numbers fit is in `.well_formed`.
use lib.Dec.{lit<}
use Rattle.laws.proofs.Bits.{holds-diff, back}
use Rattle.crossing.specs.Edges.{dot}
use Rattle.crossing.proofs.dot_of.Goals as goal

pub returns : goal.returns
unfolding dot
returns c =
    let ux = (holds-diff c.args.a.x c.args.b.x c.well_formed.0.1.1.0.1 c.well_formed.1.0.1.1.0.1 (lit< tt) c.requires.0.wide).reads in
    let uy = (holds-diff c.args.a.y c.args.b.y c.well_formed.0.1.1.1.0.1 c.well_formed.1.0.1.1.1.0.1 (lit< tt) c.requires.0.high).reads in
    let wx = (holds-diff c.args.c.x c.args.b.x c.well_formed.1.1.0.1.1.0.1 c.well_formed.1.0.1.1.0.1 (lit< tt) c.requires.1.wide).reads in
    let wy = (holds-diff c.args.c.y c.args.b.y c.well_formed.1.1.0.1.1.1.0.1 c.well_formed.1.0.1.1.1.0.1 (lit< tt) c.requires.1.high).reads in
    cc (ux, uy, wx, wy, back c.inner.result c.inner.type_inv)
