-- `record::plain_run` meets its contract: the `i` bytes passed are plain, and the run goes on at `i`. Assumes nothing.
use Rattle.std.proofs.Common.{◌≡◌, ◌+◌, drop}
use Rattle.laws.specs.Lists.{run}
use Rattle.record.specs.Record.{plain}
use Rattle.record.proofs.plain_run.Given as goal

abbrev pub invariant-loop-i : goal.invariant-loop-i
invariant-loop-i l = run plain l.bs ≡ l.i + run plain (drop l.i l.bs)
