-- `plane::away` meets its contract: the difference fits, since the two are near. Assumes nothing.
use lib.Dec.{lit<}
use Rattle.laws.proofs.Bits.{ask-diff, holds-diff}
use Rattle.plane.proofs.AreaWays.{near_within}
use Rattle.plane.proofs.away.Goals as goal

pub overflow_sub-result : goal.overflow_sub-result
overflow_sub-result c = ask-diff c.args.b c.args.a c.ranges.b.sfits c.ranges.a.sfits (lit< tt) (near_within c.args.a c.args.b c.requires)

pub returns : goal.returns
returns c = (holds-diff c.args.b c.args.a c.ranges.b.sfits c.ranges.a.sfits (lit< tt) (near_within c.args.a c.args.b c.requires)).reads
