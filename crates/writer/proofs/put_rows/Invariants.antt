-- `put_rows` meets its contract. What is to come are the rows that are left, which are well made. Assumes nothing.
use Rattle.made.specs.Made.{tables}
use Rattle.writer.proofs.Walk.{Writing}
use Rattle.writer.proofs.put_rows.Given as goal

abbrev pub invariant-loop : goal.invariant-loop
invariant-loop l = Writing (tables l.lent) l.count l.initial.out l.at (tables l.left) l.out l.next l.counter
