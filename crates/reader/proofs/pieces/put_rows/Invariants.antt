-- `reader::put_rows` meets its contract. Assumes nothing.
use Prim.Native.Nat.{◌-◌}
use lib.ListN.{length}
use Rattle.reader.proofs.Rows.{Putting}
use Rattle.reader.proofs.pieces.put_rows.Given as goal

abbrev pub invariant-loop-mode : goal.invariant-loop-mode
invariant-loop-mode l = Putting l.mode l.src l.initial.d l.initial.rows l.initial.letters l.initial.islands l.initial.points l.d l.rows l.letters l.islands l.points

abbrev pub decreases-loop-mode : goal.decreases-loop-mode
decreases-loop-mode l = length l.src - l.d.at
