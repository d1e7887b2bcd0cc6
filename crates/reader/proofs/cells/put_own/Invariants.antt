-- `put_own` meets its contract. So far the first `j` numbers that the section gives stand in the table. Assumes nothing.
use Rattle.sheet.specs.Tables.{own_cells}
use Rattle.reader.proofs.Storing.{Pasting}
use Rattle.reader.proofs.cells.put_own.Given as goal

abbrev pub invariant-loop-j : goal.invariant-loop-j
invariant-loop-j l = Pasting l.initial.dst l.at (own_cells l.t) l.dst l.j
