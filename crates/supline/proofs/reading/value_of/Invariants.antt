-- `value_of` reads the digits of a field. Invariant: `n` is what the first bytes make, and the rest goes on from it. Assumes nothing.
use Rattle.supline.proofs.ReadingWays.{Valued}
use Rattle.supline.proofs.reading.value_of.Given as goal

abbrev pub invariant-loop-b : goal.invariant-loop-b
invariant-loop-b l = Valued l.s l.n l.b-index
