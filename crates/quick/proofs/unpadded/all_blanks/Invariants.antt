-- `all_blanks` meets its contract: blanks stand in front of the place, and the run goes on behind it. Assumes nothing.
use Rattle.std.proofs.Common.{◌≡◌, ◌+◌, drop}
use Rattle.laws.specs.Lists.{run}
use Rattle.number.specs.Words.{blank}
use Rattle.quick.proofs.unpadded.all_blanks.Given as goal

abbrev pub invariant-loop-i : goal.invariant-loop-i
invariant-loop-i l = run blank l.t ≡ l.i + run blank (drop l.i l.t)
