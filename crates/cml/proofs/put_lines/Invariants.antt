-- `put_lines` meets its contract: a walk over the rows. Assumes nothing.
use Rattle.made.specs.Made.{tables}
use Rattle.cml.proofs.Walk.{Writing}
use Rattle.cml.proofs.put_lines.Given as goal

abbrev pub invariant-loop : goal.invariant-loop
invariant-loop l = Writing (tables l.lent) l.count l.initial.out (tables l.left) l.out l.next l.counter
