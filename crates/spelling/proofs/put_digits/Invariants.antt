-- `put_digits` meets its contract by the loop that `Placing` describes, two digits a turn; `rest` falls.
use Rattle.spelling.proofs.Ways.{Placing}
use Rattle.spelling.proofs.put_digits.Given as goal

abbrev pub invariant-loop-rest : goal.invariant-loop-rest
invariant-loop-rest l = Placing l.initial.text l.end l.n l.text l.at l.rest

abbrev pub decreases-loop-rest : goal.decreases-loop-rest
decreases-loop-rest l = l.rest
