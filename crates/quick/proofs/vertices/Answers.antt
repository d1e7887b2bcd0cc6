-- `quick::vertices` meets its contract. Assumes nothing.
use Rattle.std.proofs.Common.{arith}
use Rattle.quick.proofs.Places.{past-x, past-y, vertices-on}
use Rattle.quick.proofs.UsualLaws.{begun-short, begun-vertices}
use Rattle.quick.proofs.vertices.Goals as goal

pub overflow_mul-next-2 : goal.overflow_mul-next-2
overflow_mul-next-2 c = omega (arith, (begun-short c.args.mode c.args.s.now c.args.at c.usual_run-begun.result.width c.usual_run-begun.result.count c.usual_run-begun.ensures.1 (omega arith) (omega arith)).0)

pub overflow_add-next : goal.overflow_add-next
overflow_add-next c = omega (arith, (begun-short c.args.mode c.args.s.now c.args.at c.usual_run-begun.result.width c.usual_run-begun.result.count c.usual_run-begun.ensures.1 (omega arith) (omega arith)).1)

pub loop-count-init : goal.loop-count-init
loop-count-init c = begun-vertices c.args.mode c.args.s.now c.args.at c.usual_run-begun.result.width c.usual_run-begun.result.count c.usual_run-begun.ensures.1

pub overflow_add-mid : goal.overflow_add-mid
overflow_add-mid c = omega (arith, past-x c.args.mode c.args.s.now c.args.at c.loop-count.count c.loop-count.next c.width_at-x.result 0 c.loop-count.invariant c.width_at-x.ensures c.if-x-eq0.false)

pub overflow_add-next-in-loop-count : goal.overflow_add-next-in-loop-count
overflow_add-next-in-loop-count c = omega (arith, past-y c.args.mode c.args.s.now c.args.at c.loop-count.count c.loop-count.next c.width_at-x.result c.width_at-y.result c.loop-count.invariant c.width_at-x.ensures c.if-x-eq0.false c.width_at-y.ensures c.if-y-eq0.false)

pub loop-count-preserved : goal.loop-count-preserved
loop-count-preserved c = vertices-on c.args.mode c.args.s.now c.args.at c.loop-count.count c.loop-count.next c.width_at-x.result c.width_at-y.result c.loop-count.invariant c.width_at-x.ensures c.if-x-eq0.false c.width_at-y.ensures c.if-y-eq0.false
