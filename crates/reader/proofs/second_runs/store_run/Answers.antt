-- `reader::store_run` meets its contract. Assumes nothing.
use Rattle.reader.specs.Store.{none}
use Rattle.reader.proofs.Running.{stored-x, stored-y, stored_on, stored-length}
use native.Mathlib.Omega.{arith}
use Prim.Native.Nat.{◌+◌, ◌*◌}
use lib.ListN.{length, length-set}
use mathlib.Core.Path.{◌≡◌, ap}
use Rattle.token.specs.Lex.{unlift}
use Rattle.reader.proofs.second_runs.store_run.Goals as goal

pub loop-k-init : goal.loop-k-init
loop-k-init c = (omega arith, none)

pub shape_of-points-then-x-eq0 : goal.shape_of-points-then-x-eq0
shape_of-points-then-x-eq0 c = stored-length c.loop-k.invariant.1

pub returns-then-x-eq0 : goal.returns-then-x-eq0
returns-then-x-eq0 c = c.loop-k.invariant

pub overflow_add-mid : goal.overflow_add-mid
overflow_add-mid c = omega (arith, stored-x c.args.mode c.args.src.now c.args.at c.args.from c.args.points.now c.loop-k.points c.loop-k.k c.loop-k.here c.real_at-x.result c.real_at-x.result c.loop-k.invariant.1 c.real_at-x.ensures c.if-x-eq0.false)

pub shape_of-points-then-y-eq0 : goal.shape_of-points-then-y-eq0
shape_of-points-then-y-eq0 c = stored-length c.loop-k.invariant.1

pub returns-then-y-eq0 : goal.returns-then-y-eq0
returns-then-y-eq0 c = c.loop-k.invariant

pub overflow_add-p : goal.overflow_add-p
overflow_add-p c = omega (arith, c.room_at-room.ensures.1 (omega (arith, c.loop-k-test.true)), c.loop-k-test.true)

pub overflow_mul-p : goal.overflow_mul-p
overflow_mul-p c = omega (arith, c.room_at-room.ensures.1 (omega (arith, c.loop-k-test.true)), c.loop-k-test.true)

pub put_real-requires : goal.put_real-requires
put_real-requires c = (omega (arith, stored-length c.loop-k.invariant.1, c.room_at-room.ensures.1 (omega (arith, c.loop-k-test.true)), c.loop-k-test.true), (stored-x c.args.mode c.args.src.now c.args.at c.args.from c.args.points.now c.loop-k.points c.loop-k.k c.loop-k.here c.real_at-x.result c.real_at-x.result c.loop-k.invariant.1 c.real_at-x.ensures c.if-x-eq0.false).1)

pub overflow_add-p-in-loop-k : goal.overflow_add-p-in-loop-k
overflow_add-p-in-loop-k c = omega (arith, c.room_at-room.ensures.1 (omega (arith, c.loop-k-test.true)), c.loop-k-test.true)

pub put_real-requires-in-loop-k : goal.put_real-requires-in-loop-k
put_real-requires-in-loop-k c = (omega (arith, stored-length c.loop-k.invariant.1, c.room_at-room.ensures.1 (omega (arith, c.loop-k-test.true)), c.loop-k-test.true, length-set c.loop-k.points (2 * (c.args.from + c.loop-k.k)) (unlift c.real_at-x.result.value), ap length c.put_real.ensures), (stored-y c.args.mode c.args.src.now c.args.at c.args.from c.args.points.now c.loop-k.points c.loop-k.k c.loop-k.here c.real_at-x.result c.real_at-y.result c.loop-k.invariant.1 c.real_at-x.ensures c.if-x-eq0.false c.real_at-y.ensures c.if-y-eq0.false).1)

pub overflow_add-here : goal.overflow_add-here
overflow_add-here c = omega (arith, stored-y c.args.mode c.args.src.now c.args.at c.args.from c.args.points.now c.loop-k.points c.loop-k.k c.loop-k.here c.real_at-x.result c.real_at-y.result c.loop-k.invariant.1 c.real_at-x.ensures c.if-x-eq0.false c.real_at-y.ensures c.if-y-eq0.false)

pub loop-k-preserved : goal.loop-k-preserved
loop-k-preserved c = (omega (arith, c.room_at-room.ensures.0, c.loop-k-test.true), stored_on c.args.mode c.args.src.now c.args.at c.args.from c.args.points.now c.loop-k.points c.loop-k.k c.loop-k.here c.real_at-x.result c.real_at-y.result c.loop-k.invariant.1 c.real_at-x.ensures c.if-x-eq0.false c.real_at-y.ensures c.if-y-eq0.false _ _ c.put_real.ensures c.put_real-in-loop-k.ensures)

pub shape_of-points : goal.shape_of-points
shape_of-points c = stored-length c.loop-k.invariant.1

pub returns : goal.returns
returns c =
    let z : c.loop-k.k ≡ c.room_at-room.result = omega (arith, c.loop-k-test.false) in
    rw (← z) c.loop-k.invariant
