-- `is_any_wide` meets its contract: none of the rows behind the walk has a wide figure. Assumes nothing.
use Rattle.made.specs.Made.{tables}
use Rattle.sup.proofs.ListedWays.{Searching}
use Rattle.sup.proofs.listed.is_any_wide.Given as goal

abbrev pub invariant-loop : goal.invariant-loop
invariant-loop l = Searching l.sheet.header l.sheet.count (tables l.sheet.lent) l.d l.counter
