-- `reader::skim_heads` meets its contract. Assumes nothing.
use Prim.Native.Nat.{◌-◌}
use lib.ListN.{length}
use Rattle.machine.specs.declared.State.TheVariants.{Due}
use Rattle.reader.specs.Turn.{stand_of}
use Rattle.reader.proofs.Rows.{Skimmed}
use Rattle.reader.proofs.whole_rows.skim_heads.Given as goal

abbrev pub invariant-loop-h : goal.invariant-loop-h
invariant-loop-h l = Skimmed l.mode l.src (stand_of Due l.initial.at l.initial.nth l.initial.ring l.initial.needs) (stand_of Due l.at l.nth l.ring l.needs)

abbrev pub decreases-loop-h : goal.decreases-loop-h
decreases-loop-h l = length l.src - l.at
