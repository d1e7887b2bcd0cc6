-- `quick::blanks` meets its contract. Assumes nothing.
use Rattle.std.proofs.Common.{◌≡◌, ◌+◌, ◌-◌, ◌≤◌, drop}
use Rattle.laws.specs.Lists.{run}
use Rattle.number.specs.Words.{blank}
use Rattle.quick.proofs.aligned.blanks.Given as goal

abbrev pub invariant-loop-i : goal.invariant-loop-i
invariant-loop-i l = (l.i ≤ 8) × (run blank l.c ≡ l.i + run blank (drop l.i l.c))

abbrev pub decreases-loop-i : goal.decreases-loop-i
decreases-loop-i l = 8 - l.i
