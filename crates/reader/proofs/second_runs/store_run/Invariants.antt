-- `reader::store_run` meets its contract. Assumes nothing.
use Rattle.reader.specs.Store.{VerticesStored}
use Prim.Native.Nat.{◌≤◌}
use Rattle.reader.proofs.second_runs.store_run.Given as goal

abbrev pub invariant-loop-k : goal.invariant-loop-k
invariant-loop-k l = (l.k ≤ l.most) × VerticesStored l.mode l.src l.at l.from l.initial.points l.k l.here l.points
