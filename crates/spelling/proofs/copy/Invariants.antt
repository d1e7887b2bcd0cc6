-- `copy` meets its contract. So far the first `i` characters stand over what was there.
use Rattle.spelling.proofs.Ways.{Copying}
use Rattle.spelling.proofs.copy.Given as goal

abbrev pub invariant-loop-i : goal.invariant-loop-i
invariant-loop-i l = Copying l.text l.initial.out l.out l.i
