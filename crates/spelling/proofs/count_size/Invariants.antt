-- `count_size` meets its contract by the loop that `Counting` describes; `rest` falls.
use Rattle.spelling.proofs.Ways.{Counting}
use Rattle.spelling.proofs.count_size.Given as goal

abbrev pub invariant-loop-rest : goal.invariant-loop-rest
invariant-loop-rest l = Counting l.value l.size l.rest

abbrev pub decreases-loop-rest : goal.decreases-loop-rest
decreases-loop-rest l = l.rest
