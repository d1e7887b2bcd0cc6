-- `lines_size` meets its contract: a walk over the rows, which stops past the limit. Assumes nothing.
use Rattle.made.specs.Made.{tables}
use Rattle.cml.proofs.Walk.{Measured}
use Rattle.cml.proofs.lines_size.Given as goal

abbrev pub invariant-loop : goal.invariant-loop
invariant-loop l = Measured (tables l.lent) l.count (tables l.left) l.total l.counter
