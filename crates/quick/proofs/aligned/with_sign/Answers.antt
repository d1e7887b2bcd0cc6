-- `quick::with_sign` meets its contract. Assumes nothing.
use Rattle.std.proofs.Common.{arith}
use Rattle.quick.proofs.Tokens.{plus-short}
use Rattle.quick.proofs.aligned.with_sign.Goals as goal

pub overflow_add-result : goal.overflow_add-result
overflow_add-result c = omega (arith, plus-short c.args.c.now c.args.d c.args.n c.blanks-k.result c.requires.0 c.requires.1 c.requires.2 c.requires.3 c.blanks-k.ensures.0 c.blanks-k.ensures.1 c.if-k-d.true)
