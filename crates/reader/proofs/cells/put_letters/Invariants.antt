-- `put_letters` meets its contract. So far the first `j` letters stand in the table. Assumes nothing.
use Rattle.reader.proofs.Storing.{Pasting}
use Rattle.reader.proofs.cells.put_letters.Given as goal

abbrev pub invariant-loop-j : goal.invariant-loop-j
invariant-loop-j l = Pasting l.initial.dst l.at l.c l.dst l.j
