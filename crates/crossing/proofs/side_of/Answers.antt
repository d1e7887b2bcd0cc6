-- `crossing::side_of` meets its contract: each difference is within `span`, since the points are close, and so reads back. What a struct's numbers fit is in `.well_formed`.
use lib.Dec.{lit<}
use Rattle.laws.proofs.Bits.{holds-diff, back}
use Rattle.crossing.specs.Edges.{side}
use Rattle.crossing.proofs.side_of.Goals as goal

pub returns : goal.returns
unfolding side
returns c =
    let ux = (holds-diff c.args.b.x c.args.a.x c.well_formed.1.0.1.1.0.1 c.well_formed.0.1.1.0.1 (lit< tt) c.requires.0.wide).reads in
    let uy = (holds-diff c.args.b.y c.args.a.y c.well_formed.1.0.1.1.1.0.1 c.well_formed.0.1.1.1.0.1 (lit< tt) c.requires.0.high).reads in
    let wx = (holds-diff c.args.c.x c.args.a.x c.well_formed.1.1.0.1.1.0.1 c.well_formed.0.1.1.0.1 (lit< tt) c.requires.1.wide).reads in
    let wy = (holds-diff c.args.c.y c.args.a.y c.well_formed.1.1.0.1.1.1.0.1 c.well_formed.0.1.1.1.0.1 (lit< tt) c.requires.1.high).reads in
    cc (ux, uy, wx, wy, back c.cross.result c.cross.type_inv)
