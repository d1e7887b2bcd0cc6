-- `plane::area_of` meets its contract. The loop's invariant: vertices 0 to k are near the first, and the sum is that over the edges up to k. Assumes nothing.
use mathlib.Core.Bool.{not}
use mathlib.Core.Path.{ap}
use native.Mathlib.Omega.{arith}
use Rattle.plane.proofs.AreaWays.{summed-start, summed-small, summed-end, summed-far-x, summed-far-y, summed-edge, summed-add, summed-on}
use Rattle.plane.proofs.area_of.Goals.{then-not-within_reach-via-then-not-within_reach, then-not-within_reach-via-else-not-within_reach+then-not-within_reach-2}
use Rattle.plane.proofs.area_of.Goals as goal

pub loop-k-init : goal.loop-k-init
loop-k-init c = summed-start c.args.points.now c.args.from c.args.count c.requires

pub returns-then-not-within_reach : goal.returns-then-not-within_reach
returns-then-not-within_reach c =
    elim c.then-not-within_reach.branch [
      | then-not-within_reach-via-then-not-within_reach w ↦ summed-far-x c.args.points.now c.args.from c.args.count c.requires c.loop-k.invariant (omega arith) c.x_of-x.type_inv c.x_of-a.type_inv c.x_of-x.ensures c.x_of-a.ensures c.within_reach.ensures (ap not w.if-not-within_reach.true)
      | then-not-within_reach-via-else-not-within_reach+then-not-within_reach-2 w ↦ summed-far-y c.args.points.now c.args.from c.args.count c.requires c.loop-k.invariant (omega arith) c.x_of-x.type_inv c.x_of-a.type_inv c.x_of-x.ensures c.x_of-a.ensures c.within_reach.ensures c.y_of-y.type_inv c.y_of-b.type_inv c.y_of-y.ensures c.y_of-b.ensures w.within_reach-else-not-within_reach.ensures (ap not w.if-not-within_reach-2.true)
    ]

pub edge-s-requires : goal.edge-s-requires
edge-s-requires c = summed-edge c.args.points.now c.args.from c.args.count c.requires c.loop-k.invariant (omega arith) c.x_of-x.type_inv c.x_of-a.type_inv c.x_of-x.ensures c.x_of-a.ensures c.within_reach.ensures c.y_of-y.type_inv c.y_of-b.type_inv c.y_of-y.ensures c.y_of-b.ensures c.within_reach-else-not-within_reach.ensures (ap not c.if-not-within_reach.false) (ap not c.if-not-within_reach-2.false) c.away-x2.ensures c.away-y2.ensures

pub overflow_add-s : goal.overflow_add-s
overflow_add-s c = summed-add c.args.points.now c.args.from c.args.count c.requires c.loop-k.invariant (omega arith) c.x_of-x.type_inv c.x_of-a.type_inv c.x_of-x.ensures c.x_of-a.ensures c.within_reach.ensures c.y_of-y.type_inv c.y_of-b.type_inv c.y_of-y.ensures c.y_of-b.ensures c.within_reach-else-not-within_reach.ensures (ap not c.if-not-within_reach.false) (ap not c.if-not-within_reach-2.false) c.away-x2.ensures c.away-y2.ensures c.edge-s.ensures

pub loop-k-preserved : goal.loop-k-preserved
loop-k-preserved c = summed-on c.args.points.now c.args.from c.args.count c.requires c.loop-k.invariant (omega arith) c.x_of-x.type_inv c.x_of-a.type_inv c.x_of-x.ensures c.x_of-a.ensures c.within_reach.ensures c.y_of-y.type_inv c.y_of-b.type_inv c.y_of-y.ensures c.y_of-b.ensures c.within_reach-else-not-within_reach.ensures (ap not c.if-not-within_reach.false) (ap not c.if-not-within_reach-2.false) c.away-x2.ensures c.away-y2.ensures c.edge-s.ensures

pub absolute-requires : goal.absolute-requires
absolute-requires c = summed-small c.args.points.now c.args.from c.args.count c.requires c.loop-k.invariant

pub returns : goal.returns
returns c = summed-end c.args.points.now c.args.from c.args.count c.requires c.loop-k.invariant (omega arith) c.absolute.type_inv c.absolute.ensures
