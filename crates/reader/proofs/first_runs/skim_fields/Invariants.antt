-- `reader::skim_fields` meets its contract. Assumes nothing.
use Rattle.reader.proofs.Fields.{Walked}
use lib.ListN.{length}
use Prim.Native.Nat.{◌-◌}
use Rattle.reader.proofs.first_runs.skim_fields.Given as goal

abbrev pub invariant-loop-st : goal.invariant-loop-st
invariant-loop-st l = Walked l.mode l.src l.d l.st l.here l.ring l.k

abbrev pub decreases-loop-st : goal.decreases-loop-st
decreases-loop-st l = length l.src - l.here
