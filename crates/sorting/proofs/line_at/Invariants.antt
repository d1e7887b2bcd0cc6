-- `line_at` meets its contract: k bytes of the line are copied. Assumes nothing.
use Rattle.sorting.proofs.CodeWays.{Copied}
use Rattle.sorting.proofs.line_at.Given as goal

abbrev pub invariant-loop-k : goal.invariant-loop-k
invariant-loop-k l = Copied l.s l.i l.line l.k
