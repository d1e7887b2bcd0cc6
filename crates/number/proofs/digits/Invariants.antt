-- `number::digits` meets its contract: the `i` bytes passed pass the test, and the run goes on at `i`. Assumes nothing.
use Rattle.std.proofs.Common.{◌≡◌, ◌+◌, drop}
use Rattle.laws.specs.Lists.{run}
use Rattle.number.specs.Number.{digit}
use Rattle.number.proofs.digits.Given as goal

abbrev pub invariant-loop-i : goal.invariant-loop-i
invariant-loop-i l = run digit l.s ≡ l.i + run digit (drop l.i l.s)
