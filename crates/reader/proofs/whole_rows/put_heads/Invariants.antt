-- `reader::put_heads` meets its contract. Assumes nothing.
use Prim.Native.Nat.{◌-◌}
use lib.ListN.{length}
use Rattle.machine.specs.declared.State.TheVariants.{Due}
use Rattle.reader.specs.Turn.{stand_of}
use Rattle.reader.proofs.RowLoops.{Rowing}
use Rattle.reader.proofs.whole_rows.put_heads.Given as goal

abbrev pub invariant-loop-h : goal.invariant-loop-h
invariant-loop-h l = Rowing l.mode l.src (stand_of Due l.initial.at l.initial.nth l.initial.ring l.initial.needs) l.initial.rows l.initial.letters l.initial.points (stand_of Due l.at l.nth l.ring l.needs) l.rows l.letters l.points

abbrev pub decreases-loop-h : goal.decreases-loop-h
decreases-loop-h l = length l.src - l.at
