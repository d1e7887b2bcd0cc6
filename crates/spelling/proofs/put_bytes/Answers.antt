-- `put_bytes` meets its contract: too little room, or the copy. Assumes nothing.
use native.Mathlib.Omega.{arith}
use Prim.Native.Nat.{◌+◌, ◌<◌}
use lib.ListN.{length}
use Rattle.spelling.proofs.Ways.{stored-tight, stored-done}
use Rattle.spelling.proofs.put_bytes.Goals as goal
use Rattle.spelling.proofs.put_bytes.Goals.{then-at-out-via-then-at-out, then-at-out-via-else-at-out+then-s-out}

pub returns-then-at-out : goal.returns-then-at-out
returns-then-at-out c =
    let h : length c.args.out.now < c.args.at + length c.args.s.now =
    elim c.then-at-out.branch [
      | then-at-out-via-then-at-out w ↦ omega arith
      | then-at-out-via-else-at-out+then-s-out w ↦ omega arith
    ] in
    stored-tight c.args.out.now c.args.at c.args.s.now h

pub returns : goal.returns
returns c =
    stored-done c.args.out.now c.args.at c.args.s.now c.if-at-out.false c.if-s-out.false _ c.copy.ensures
