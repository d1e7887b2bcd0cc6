-- `rows_length` meets its contract: the bytes so far and those of the rows that are left are those of the whole. Assumes nothing.
use Rattle.made.specs.Made.{tables}
use Rattle.writer.proofs.Walk.{Measured}
use Rattle.writer.proofs.rows_length.Given as goal

abbrev pub invariant-loop : goal.invariant-loop
invariant-loop l = Measured (tables l.lent) l.count l.start (tables l.left) l.total l.counter
