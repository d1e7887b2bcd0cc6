-- `put_lines` meets its contract. Invariant: what is left of the lines is to come. Assumes nothing.
use Prim.Native.Nat.{◌*◌}
use lib.ListN.{drop}
use Rattle.writer.proofs.Putting.{Putting}
use Rattle.sup.specs.Printing.{named_text}
use Rattle.sup.proofs.printing.put_lines.Given as goal

abbrev pub invariant-loop-i : goal.invariant-loop-i
invariant-loop-i l = Putting l.initial.out l.at (named_text l.names l.figures) l.out l.next (named_text (drop (11 * l.i) l.names) (drop l.i l.figures))
