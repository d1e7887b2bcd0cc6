-- `put_bare` meets its contract: out of range, too little room, twice, or the characters laid back from the point.
use native.Mathlib.Omega.{arith}
use Rattle.spelling.proofs.BareWays.{bare-past, bare-tight, bare-asks, bare-four, bare-done, bare-none}
use Rattle.spelling.proofs.put_bare.Goals as goal
use Rattle.spelling.proofs.put_bare.Goals.{then-not-is_real-via-then-not-is_real, then-not-is_real-via-else-not-is_real+then-at-out}

pub returns-then-not-is_real : goal.returns-then-not-is_real
returns-then-not-is_real c =
    elim c.then-not-is_real.branch [
      | then-not-is_real-via-then-not-is_real w ↦ bare-none c.args.out.now c.args.at _ c.ranges.value _ c.is_real.ensures w.if-not-is_real.true
      | then-not-is_real-via-else-not-is_real+then-at-out w ↦
          bare-past c.args.out.now c.args.at _ c.ranges.value _ c.is_real.ensures w.if-not-is_real.false w.if-at-out.true
    ]

pub returns-then-size-out : goal.returns-then-size-out
returns-then-size-out c = bare-tight c.args.out.now c.args.at _ c.ranges.value _ c.is_real.ensures c.if-not-is_real.false _ c.bare_size-size.ensures c.if-size-out.true

pub overflow_sub-at : goal.overflow_sub-at
overflow_sub-at c = omega (arith, bare-four c.args.out.now c.args.at _ c.ranges.value _ c.is_real.ensures c.if-not-is_real.false _ c.bare_size-size.ensures)

pub put_round-requires : goal.put_round-requires
put_round-requires c = bare-asks c.args.out.now c.args.at _ c.ranges.value _ c.is_real.ensures c.if-not-is_real.false _ c.bare_size-size.ensures c.if-at-out.false c.if-size-out.false

pub returns : goal.returns
returns c = bare-done c.args.out.now c.args.at _ c.ranges.value _ c.is_real.ensures c.if-not-is_real.false _ c.bare_size-size.ensures c.if-at-out.false c.if-size-out.false _ c.put_round.ensures
