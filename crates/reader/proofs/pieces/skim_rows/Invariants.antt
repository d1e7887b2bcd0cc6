-- `reader::skim_rows` meets its contract. Assumes nothing.
use Prim.Native.Nat.{◌-◌}
use lib.ListN.{length}
use Rattle.reader.proofs.Rows.{Skimmed}
use Rattle.reader.proofs.pieces.skim_rows.Given as goal

abbrev pub invariant-loop-mode : goal.invariant-loop-mode
invariant-loop-mode l = Skimmed l.mode l.src l.initial.d l.d

abbrev pub decreases-loop-mode : goal.decreases-loop-mode
decreases-loop-mode l = length l.src - l.d.at
