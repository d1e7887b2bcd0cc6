-- `plane::edge` meets its contract: the products of numbers within `reach`, and their difference, fit. Assumes nothing.
use lib.Dec.{lit<}
use Rattle.laws.proofs.Bits.{holds_of, holds-mul, holds-sub, ask-mul, ask-sub}
use Rattle.plane.proofs.edge.Goals as goal

pub overflow_mul-result : goal.overflow_mul-result
overflow_mul-result c = ask-mul (holds_of c.ranges.x1 c.requires.0) (holds_of c.ranges.y2 c.requires.3) (lit< tt)

pub overflow_mul-result-2 : goal.overflow_mul-result-2
overflow_mul-result-2 c = ask-mul (holds_of c.ranges.x2 c.requires.2) (holds_of c.ranges.y1 c.requires.1) (lit< tt)

pub overflow_sub-result : goal.overflow_sub-result
overflow_sub-result c =
    ask-sub (holds-mul (holds_of c.ranges.x1 c.requires.0) (holds_of c.ranges.y2 c.requires.3) (lit< tt))
    (holds-mul (holds_of c.ranges.x2 c.requires.2) (holds_of c.ranges.y1 c.requires.1) (lit< tt)) (lit< tt)

pub returns : goal.returns
returns c =
    (holds-sub (holds-mul (holds_of c.ranges.x1 c.requires.0) (holds_of c.ranges.y2 c.requires.3) (lit< tt))
    (holds-mul (holds_of c.ranges.x2 c.requires.2) (holds_of c.ranges.y1 c.requires.1) (lit< tt)) (lit< tt)).reads
