-- `put_mark` meets its contract: a comma, or what stands before a vertex. Assumes nothing.
use native.Mathlib.Omega.{arith}
use Rattle.cml.proofs.PairWays.{comma-room, comma-put, mark-room, mark-put}
use Rattle.cml.proofs.put_mark.Goals as goal

pub bounds-out-at : goal.bounds-out-at
bounds-out-at c = omega (arith, comma-room c.args.out.now c.args.at c.args.j c.requires c.if-j-eq1.true)

pub returns-then-j-eq1 : goal.returns-then-j-eq1
returns-then-j-eq1 c = comma-put c.args.out.now c.args.at c.args.j c.requires c.if-j-eq1.true

pub put_gap-requires : goal.put_gap-requires
put_gap-requires c = mark-room c.args.out.now c.args.at c.args.j c.requires c.if-j-eq1.false

pub returns : goal.returns
returns c = mark-put c.args.out.now c.args.at c.args.j c.requires c.if-j-eq1.false c.put_gap.ensures
