-- `reader::islands_into` meets its contract. Assumes nothing.
use Rattle.reader.proofs.RingLaws.{Counting}
use Prim.Native.Nat.{◌-◌}
use lib.ListN.{length}
use Rattle.reader.proofs.ring_runs.islands_into.Given as goal

abbrev pub invariant-loop-st : goal.invariant-loop-st
invariant-loop-st l = Counting l.mode l.src l.d l.initial.islands l.st l.here l.k l.islands

abbrev pub decreases-loop-st : goal.decreases-loop-st
decreases-loop-st l = length l.src - l.here
