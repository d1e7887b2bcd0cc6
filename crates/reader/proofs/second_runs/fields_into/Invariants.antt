-- `reader::fields_into` meets its contract. Assumes nothing.
use Rattle.reader.proofs.Fields.{Entered}
use lib.ListN.{length}
use Prim.Native.Nat.{◌-◌}
use Rattle.reader.proofs.second_runs.fields_into.Given as goal

abbrev pub invariant-loop-st : goal.invariant-loop-st
invariant-loop-st l = Entered l.mode l.src l.d l.initial.rows l.st l.here l.ring l.k l.rows

abbrev pub decreases-loop-st : goal.decreases-loop-st
decreases-loop-st l = length l.src - l.here
