-- `quick::neat` meets its contract. Assumes nothing.
use Rattle.std.proofs.Common.{arith}
use Rattle.quick.proofs.Twelve.{token-is}
use Rattle.quick.proofs.aligned.neat.Goals as goal

pub with_sign-requires : goal.with_sign-requires
with_sign-requires c = (c.if-c-ne12.false, c.if-c-ne46.false, omega arith, token-is c.args.c.now c.front-d.result.start c.front-d.result.value c.three-n.result c.is_lean.result c.if-c-ne12.false c.if-c-ne46.false c.front-d.ensures c.if-d-gt7.false c.is_lean.ensures c.if-not-is_lean.false c.three-n.ensures (omega arith))
