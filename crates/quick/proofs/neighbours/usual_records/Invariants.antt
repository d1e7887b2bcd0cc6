-- `quick::usual_records` meets its contract. Assumes nothing.
use Rattle.quick.proofs.UsualLaws.{Judging}
use Rattle.quick.proofs.neighbours.usual_records.Given as goal

abbrev pub invariant-loop-k : goal.invariant-loop-k
invariant-loop-k l = Judging l.s l.at l.width l.end l.k l.here
