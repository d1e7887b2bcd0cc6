-- `quick::brisk` meets its contract. Assumes nothing.
use Rattle.quick.proofs.Leading.{plus-small, brisk-plus, minus-small, brisk-minus}
use Rattle.std.proofs.Common.{arith, rules}
use Rattle.quick.proofs.unpadded.brisk.Goals as goal

pub overflow_add-result-then-a-k : goal.overflow_add-result-then-a-k
overflow_add-result-then-a-k c = omega (arith, plus-small c.args.t.now c.all_blanks-k.result c.minus.result c.body-n.result.len c.body-n.result.value c.all_blanks-k.ensures.0 c.if-k-t.false c.minus.ensures c.body-n.ensures c.if-n-lt1.false c.if-a-k.true)

pub returns-then-a-k : goal.returns-then-a-k
returns-then-a-k c = brisk-plus c.args.t.now c.all_blanks-k.result c.minus.result c.body-n.result.len c.body-n.result.value c.all_blanks-k.ensures.0 c.if-k-t.false c.minus.ensures c.body-n.ensures c.if-n-lt1.false c.if-a-k.true

pub overflow_sub-result : goal.overflow_sub-result
overflow_sub-result c = omega (arith, minus-small c.args.t.now c.all_blanks-k.result c.minus.result c.body-n.result.len c.body-n.result.value c.all_blanks-k.ensures.0 c.if-k-t.false c.minus.ensures c.body-n.ensures c.if-n-lt1.false c.if-a-k.false (search rules))

pub returns : goal.returns
returns c = brisk-minus c.args.t.now c.all_blanks-k.result c.minus.result c.body-n.result.len c.body-n.result.value c.all_blanks-k.ensures.0 c.if-k-t.false c.minus.ensures c.body-n.ensures c.if-n-lt1.false c.if-a-k.false (search rules)
