-- `record::until_lf` meets its contract: no LF stands before `i`, and the run goes on there. Assumes nothing.
use Rattle.std.proofs.Common.{◌≡◌, ◌+◌, drop}
use Rattle.laws.specs.Lists.{run}
use Rattle.record.specs.Record.{not_lf}
use Rattle.record.proofs.until_lf.Given as goal

abbrev pub invariant-loop-i : goal.invariant-loop-i
invariant-loop-i l = run not_lf l.bs ≡ l.i + run not_lf (drop l.i l.bs)
