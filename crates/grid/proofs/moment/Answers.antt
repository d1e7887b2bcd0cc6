-- `grid::moment` meets its contract: the products and their sum fit. Assumes nothing.
use lib.Dec.{lit<}
use Rattle.laws.proofs.Bits.{holds_of, holds-mul, holds-add, ask-mul, ask-add}
use Rattle.grid.proofs.moment.Goals as goal

pub overflow_mul-result : goal.overflow_mul-result
overflow_mul-result c = ask-mul (holds_of c.ranges.nx c.requires.0) (holds_of c.ranges.a c.requires.2) (lit< tt)

pub overflow_mul-result-2 : goal.overflow_mul-result-2
overflow_mul-result-2 c = ask-mul (holds_of c.ranges.sx c.requires.1) (holds_of c.ranges.b c.requires.3) (lit< tt)

pub overflow_add-result : goal.overflow_add-result
overflow_add-result c =
    ask-add (holds-mul (holds_of c.ranges.nx c.requires.0) (holds_of c.ranges.a c.requires.2) (lit< tt))
    (holds-mul (holds_of c.ranges.sx c.requires.1) (holds_of c.ranges.b c.requires.3) (lit< tt)) (lit< tt)

pub returns : goal.returns
returns c =
    (holds-add (holds-mul (holds_of c.ranges.nx c.requires.0) (holds_of c.ranges.a c.requires.2) (lit< tt))
    (holds-mul (holds_of c.ranges.sx c.requires.1) (holds_of c.ranges.b c.requires.3) (lit< tt)) (lit< tt)).reads
