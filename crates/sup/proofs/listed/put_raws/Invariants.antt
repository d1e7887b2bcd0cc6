-- `put_raws` meets its contract: the lines of the rows behind the walk are stored. Assumes nothing.
use Rattle.made.specs.Made.{tables}
use Rattle.sup.proofs.RawPuts.{RawStoring}
use Rattle.sup.proofs.listed.put_raws.Given as goal

abbrev pub invariant-loop : goal.invariant-loop
invariant-loop l = RawStoring l.sheet.header l.sheet.count (tables l.sheet.lent) l.initial.out l.at l.out l.d l.next l.counter
