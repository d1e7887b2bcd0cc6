-- `put_count` meets its contract: too little room, twice, or how many digits, and the digits before their end.
use native.Mathlib.Omega.{arith}
use borrow.Author.Rules.{rules}
use Rattle.spelling.specs.Spelling.{count_text}
use Rattle.spelling.proofs.Ways.{stored-tight, count-asks, count-tight, count-done}
use Rattle.spelling.proofs.put_count.Goals as goal

pub returns-then-at-out : goal.returns-then-at-out
returns-then-at-out c = stored-tight c.args.out.now c.args.at (count_text c.args.value) (omega (arith, c.if-at-out.true))

pub returns-then-size-out : goal.returns-then-size-out
returns-then-size-out c =
    count-tight c.args.out.now c.args.at c.args.value _ (omega (arith, c.ranges.value.fits)) c.count_size-size.ensures c.if-size-out.true

pub put_digits-requires : goal.put_digits-requires
put_digits-requires c =
    let k = count-asks c.args.out.now c.args.at c.args.value _ (omega (arith, c.ranges.value.fits)) c.count_size-size.ensures in
    (k.0, search rules, k.1)

pub returns : goal.returns
returns c =
    count-done c.args.out.now c.args.at c.args.value _ (omega (arith, c.ranges.value.fits)) c.count_size-size.ensures
    c.if-at-out.false c.if-size-out.false _ _ c.put_digits.ensures
