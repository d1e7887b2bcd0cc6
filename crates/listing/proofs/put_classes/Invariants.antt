-- `put_classes` meets its contract: what is to come are the lines from class `k` on. Assumes nothing.
use Rattle.writer.proofs.Putting.{Putting}
use Rattle.listing.proofs.LineWays.{classes_from}
use Rattle.listing.proofs.put_classes.Given as goal

abbrev pub invariant-loop-k : goal.invariant-loop-k
invariant-loop-k l = Putting l.initial.out l.at (classes_from 0 l.tally) l.out l.next (classes_from l.k l.tally)
