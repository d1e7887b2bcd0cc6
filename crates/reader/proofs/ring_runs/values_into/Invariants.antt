-- `reader::values_into` meets its contract. Assumes nothing.
use Rattle.reader.proofs.RingLaws.{Storing}
use Rattle.reader.proofs.ring_runs.values_into.Given as goal

abbrev pub invariant-loop-k : goal.invariant-loop-k
invariant-loop-k l = Storing l.src l.at l.width l.n l.cell l.initial.table l.k l.here l.table
