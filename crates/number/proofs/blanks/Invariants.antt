-- `number::blanks` meets its contract: the `i` bytes passed pass the test, and the run goes on at `i`. Assumes nothing.
use Rattle.std.proofs.Common.{◌≡◌, ◌+◌, drop}
use Rattle.laws.specs.Lists.{run}
use Rattle.number.specs.Words.{blank}
use Rattle.number.proofs.blanks.Given as goal

abbrev pub invariant-loop-i : goal.invariant-loop-i
invariant-loop-i l = run blank l.s ≡ l.i + run blank (drop l.i l.s)
