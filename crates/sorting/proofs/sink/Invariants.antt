-- `sink` meets its contract: see `Sinking`. Assumes nothing.
use Rattle.sorting.proofs.SinkLaws.{Sinking}
use Rattle.sorting.proofs.sink.Given as goal

abbrev pub invariant-loop-j : goal.invariant-loop-j
invariant-loop-j l = Sinking l.gap l.i l.initial.s l.s l.j

abbrev pub decreases-loop-j : goal.decreases-loop-j
decreases-loop-j l = l.j
