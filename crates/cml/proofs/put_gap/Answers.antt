-- `put_gap` meets its contract: nothing, a closed and an opened COORD, or a blank. Assumes nothing.
use native.Mathlib.Omega.{arith}
use Rattle.cml.proofs.CoordLaws.{gap-full}
use Rattle.cml.proofs.PairWays.{put_same, gap-none-put, blank-room, blank-put}
use Rattle.cml.proofs.put_gap.Goals as goal

pub returns-then-i-eq0 : goal.returns-then-i-eq0
returns-then-i-eq0 c = gap-none-put _ _ _ c.if-i-eq0.true

pub returns-then-i-eq0-2 : goal.returns-then-i-eq0-2
returns-then-i-eq0-2 c = put_same (gap-full _ c.if-i-eq0.false c.if-i-eq0-2.true) c.requires c.put_bytes.ensures

pub bounds-out-at : goal.bounds-out-at
bounds-out-at c = omega (arith, blank-room c.args.out.now c.args.at _ c.if-i-eq0.false c.if-i-eq0-2.false c.requires)

pub returns : goal.returns
returns c = blank-put c.args.out.now c.args.at _ c.if-i-eq0.false c.if-i-eq0-2.false (blank-room c.args.out.now c.args.at _ c.if-i-eq0.false c.if-i-eq0-2.false c.requires)
