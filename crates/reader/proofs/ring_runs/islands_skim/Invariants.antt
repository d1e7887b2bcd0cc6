-- `reader::islands_skim` meets its contract. Assumes nothing.
use Rattle.reader.proofs.RingLaws.{Counted}
use Prim.Native.Nat.{◌-◌}
use lib.ListN.{length}
use Rattle.reader.proofs.ring_runs.islands_skim.Given as goal

abbrev pub invariant-loop-st : goal.invariant-loop-st
invariant-loop-st l = Counted l.mode l.src l.d l.st l.here l.k

abbrev pub decreases-loop-st : goal.decreases-loop-st
decreases-loop-st l = length l.src - l.here
