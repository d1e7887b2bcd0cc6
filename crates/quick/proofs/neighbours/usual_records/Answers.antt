-- `quick::usual_records` meets its contract. Assumes nothing.
use mathlib.Core.Bool.{not}
use mathlib.Core.Path.{◌≡◌, ap}
use Rattle.std.proofs.Common.{arith}
use Rattle.quick.proofs.UsualLaws.{known_is, judging-on, judging-done}
use Rattle.quick.proofs.neighbours.usual_records.Goals as goal

pub returns-then-here-s : goal.returns-then-here-s
returns-then-here-s c = (omega arith, judging-done c.args.s.now c.args.at c.args.width c.args.end c.loop-k.k c.loop-k.here c.loop-k.invariant)

pub returns-then-not-are_neighbours : goal.returns-then-not-are_neighbours
returns-then-not-are_neighbours c = (omega arith, judging-done c.args.s.now c.args.at c.args.width c.args.end c.loop-k.k c.loop-k.here c.loop-k.invariant)

pub returns-then-not-is_tailed : goal.returns-then-not-is_tailed
returns-then-not-is_tailed c = (omega arith, judging-done c.args.s.now c.args.at c.args.width c.args.end c.loop-k.k c.loop-k.here c.loop-k.invariant)

pub loop-k-preserved : goal.loop-k-preserved
loop-k-preserved c = judging-on c.args.s.now c.args.at c.args.width c.args.end c.loop-k.k c.loop-k.here c.requires.1 c.requires.2 c.loop-k.invariant (known_is c.args.s.now c.loop-k.here c.args.width c.args.end c.requires.0 c.if-here-s.false c.loop-k.invariant.some c.loop-k.invariant.ended c.are_neighbours.result c.is_tailed.result c.are_neighbours.ensures (ap not c.if-not-are_neighbours.false) c.is_tailed.ensures (ap not c.if-not-is_tailed.false))

pub returns : goal.returns
returns c =
    let e : c.loop-k.k ≡ c.args.most = omega arith in
    (omega arith, rw e at (judging-done c.args.s.now c.args.at c.args.width c.args.end c.loop-k.k c.loop-k.here c.loop-k.invariant))
