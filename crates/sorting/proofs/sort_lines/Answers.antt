-- `sort_lines` meets its contract: all passes only exchange lines, and the last leaves them in order. Assumes nothing.
use mathlib.Core.Path.{refl}
use native.Mathlib.Omega.{arith}
use native.Mathlib.Nat.{div-le_self}
use Rattle.sorting.specs.Exchanges.{Exchanges.none_yet}
use Rattle.sorting.proofs.SortedLaws.{exchanges-length, lines-few, sorted-is}
use Rattle.sorting.proofs.SinkLaws.{passes-more, next-gap}
use Rattle.sorting.proofs.sort_lines.Goals as goal

pub loop-gap-init : goal.loop-gap-init
loop-gap-init c = (div-le_self _ 23, none_yet)

pub pass-requires : goal.pass-requires
pass-requires c = (let k = c.loop-gap-test.true in omega arith, omega (arith, exchanges-length c.loop-gap.invariant.1, lines-few c.args.s.now))

pub overflow_mul-gap : goal.overflow_mul-gap
overflow_mul-gap c = omega (arith, next-gap _ c.loop-gap-test.true, c.loop-gap.invariant.0)

pub overflow_add-gap : goal.overflow_add-gap
overflow_add-gap c = omega (arith, next-gap _ c.loop-gap-test.true, c.loop-gap.invariant.0)

pub loop-gap-smaller : goal.loop-gap-smaller
loop-gap-smaller c = next-gap _ c.loop-gap-test.true

pub loop-gap-preserved : goal.loop-gap-preserved
loop-gap-preserved c = (omega (arith, next-gap _ c.loop-gap-test.true, c.loop-gap.invariant.0), passes-more c.loop-gap.invariant.1 c.pass.ensures.exchanges)

pub pass-requires-2 : goal.pass-requires-2
pass-requires-2 c = (omega arith, omega (arith, exchanges-length c.loop-gap.invariant.1, lines-few c.args.s.now))

pub shape_of-s : goal.shape_of-s
shape_of-s c = exchanges-length (passes-more c.loop-gap.invariant.1 c.pass-2.ensures.exchanges)

pub returns : goal.returns
returns c = sorted-is (passes-more c.loop-gap.invariant.1 c.pass-2.ensures.exchanges) (c.pass-2.ensures.in_order refl)
