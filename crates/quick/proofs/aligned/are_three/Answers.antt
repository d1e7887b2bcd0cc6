-- `quick::are_three` meets its contract. Assumes nothing.
use Rattle.std.proofs.Common.{refl}
use borrow.Author.Tests.{leb-true}
use Rattle.quick.proofs.Twelve.{three-there}
use Rattle.quick.proofs.aligned.are_three.Goals as goal

pub returns : goal.returns
returns c = λ h. three-there c.args.c.now c.figure.result c.figure-2.result c.figure-3.result c.requires c.figure.ensures c.if-figure-gt9.false c.figure-2.ensures c.if-figure-gt9-2.false c.figure-3.ensures (leb-true c.figure-3.result 9 h) refl
