-- `quick::front` meets its contract: the way in mathematics is in `Twelve`. Assumes nothing.
use Rattle.std.proofs.Common.{◌≡◌, ◌+◌, ◌-◌, refl, arith}
use Rattle.laws.specs.Lists.{all}
use Rattle.number.specs.Number.{value}
use Rattle.quick.proofs.Twelve.{front-is, front-on, front-mul, front-most, front_below}
use Rattle.quick.proofs.aligned.front.Goals as goal

pub loop-i-init : goal.loop-i-init
unfolding all value
loop-i-init c = (refl, refl, refl)

pub returns-then-b-gt9 : goal.returns-then-b-gt9
returns-then-b-gt9 c =
    let i : c.loop-i.i - 1 + 1 ≡ c.loop-i.i = omega arith in
    rw i (front-is c.args.c.now c.loop-i.i c.loop-i.value c.loop-i.power c.requires (omega arith) c.loop-i.invariant.0 c.loop-i.invariant.1 c.loop-i.invariant.2)

pub overflow_add-value : goal.overflow_add-value
overflow_add-value c = omega (arith, front-mul c.args.c.now c.loop-i.i c.loop-i.value c.loop-i.power c.requires (omega arith) c.loop-i.invariant.0 c.loop-i.invariant.1 c.loop-i.invariant.2 (omega arith) c.figure-b.result c.figure-b.ensures c.if-b-gt9.false, front-most c.args.c.now c.loop-i.i c.loop-i.value c.loop-i.power c.requires (omega arith) c.loop-i.invariant.0 c.loop-i.invariant.1 c.loop-i.invariant.2, front_below c.args.c.now c.loop-i.i c.loop-i.value c.loop-i.power c.requires (omega arith) c.loop-i.invariant.0 c.loop-i.invariant.1 c.loop-i.invariant.2)

pub loop-i-preserved : goal.loop-i-preserved
loop-i-preserved c = front-on c.args.c.now c.loop-i.i c.loop-i.value c.loop-i.power c.requires (omega arith) c.loop-i.invariant.0 c.loop-i.invariant.1 c.loop-i.invariant.2 (omega arith) c.figure-b.result c.figure-b.ensures c.if-b-gt9.false

pub returns : goal.returns
returns c =
    let i : c.loop-i.i ≡ 0 = omega arith in
    rw i at (front-is c.args.c.now c.loop-i.i c.loop-i.value c.loop-i.power c.requires (omega arith) c.loop-i.invariant.0 c.loop-i.invariant.1 c.loop-i.invariant.2)
