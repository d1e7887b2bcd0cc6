-- `tally::tally_rows` meets its contract. What is to come is the tally of the rows that are left, which are well made. Assumes nothing.
use Rattle.made.specs.Made.{tables}
use Rattle.tally.proofs.Tallying.{Tallying}
use Rattle.tally.proofs.tally_rows.Given as goal

abbrev pub invariant-loop-k : goal.invariant-loop-k
invariant-loop-k l = Tallying l.sheet.header (tables l.sheet.lent) l.sheet.count l.figures (tables l.left) l.k
