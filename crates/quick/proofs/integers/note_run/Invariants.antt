-- `note_run` meets its contract: such bytes stand in front of the place, and the run goes on behind it. Assumes nothing.
use Rattle.std.proofs.Common.{◌≡◌, ◌+◌, drop}
use Rattle.laws.specs.Lists.{run}
use Rattle.record.specs.Record.{plain}
use Rattle.quick.proofs.integers.note_run.Given as goal

abbrev pub invariant-loop-i : goal.invariant-loop-i
invariant-loop-i l = run plain l.t ≡ l.i + run plain (drop l.i l.t)
