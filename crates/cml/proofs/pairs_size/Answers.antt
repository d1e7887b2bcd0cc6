-- `pairs_size` meets its contract: a loop over the vertices. Assumes nothing.
use Prim.Native.Nat.{zero-le}
use native.Mathlib.Nat.{zero-add}
use native.Mathlib.Omega.{arith}
use mathlib.Core.Bool.{true}
use Rattle.cml.proofs.PairWays.{pair-sizes, reals-next, measured-most, measured-on, measured-end}
use Rattle.cml.proofs.pairs_size.Goals as goal

pub loop-i-init : goal.loop-i-init
loop-i-init c = (zero-add _, c.requires.2, omega arith, zero-le)

pub overflow_mul-i : goal.overflow_mul-i
overflow_mul-i c = omega (arith, c.loop-i-test.true, c.requires.0)

pub bounds-s-i : goal.bounds-s-i
bounds-s-i c = omega (arith, c.loop-i-test.true, c.requires.1)

pub overflow_mul-i-in-loop-i : goal.overflow_mul-i-in-loop-i
overflow_mul-i-in-loop-i c = omega (arith, c.loop-i-test.true, c.requires.0)

pub overflow_add-i : goal.overflow_add-i
overflow_add-i c = omega (arith, c.loop-i-test.true, c.requires.0)

pub bounds-s-i-in-loop-i : goal.bounds-s-i-in-loop-i
bounds-s-i-in-loop-i c = omega (arith, c.loop-i-test.true, c.requires.1)

pub pair_size-total-requires : goal.pair_size-total-requires
pair_size-total-requires c = pair-sizes c.args.s.now _ c.requires.1 _ c.loop-i-test.true c.loop-i.invariant.1

pub overflow_add-total : goal.overflow_add-total
overflow_add-total c = omega (arith, measured-most c.args.s.now _ c.requires.1 _ c.loop-i-test.true c.loop-i.invariant.1 _ c.loop-i.invariant.0 _ c.pair_size-total.ensures, c.loop-i.invariant.2, c.loop-i-test.true, c.requires.0)

pub loop-i-preserved : goal.loop-i-preserved
loop-i-preserved c =
    let l = c.loop-i in
    let h = c.loop-i-test.true in
    let m = measured-most c.args.s.now _ c.requires.1 _ h l.invariant.1 _ l.invariant.0 _ c.pair_size-total.ensures in
    (measured-on c.args.s.now _ c.requires.1 _ h l.invariant.1 _ l.invariant.0 _ c.pair_size-total.ensures, reals-next c.args.s.now _ c.requires.1 _ h l.invariant.1, omega (arith, m, l.invariant.2), omega (arith, h))

pub overflow_add-result : goal.overflow_add-result
overflow_add-result c = omega (arith, c.loop-i.invariant.2, c.loop-i.invariant.3, c.requires.0)

pub gaps_size-requires : goal.gaps_size-requires
gaps_size-requires c = c.requires.0

pub overflow_add-result-2 : goal.overflow_add-result-2
overflow_add-result-2 c = omega (arith, c.gaps_size.ensures, c.loop-i.invariant.2, c.loop-i.invariant.3, c.requires.0)

pub returns : goal.returns
returns c =
    measured-end c.args.s.now _ c.requires.1 _ c.loop-i.invariant.3 c.loop-i-test.false _ _ c.loop-i.invariant.0 c.gaps_size.ensures
