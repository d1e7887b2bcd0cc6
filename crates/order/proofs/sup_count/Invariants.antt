-- `order::sup_count` meets its contract: those behind are counted, the others are to come. Assumes nothing.
use mathlib.Core.List.{[]}
use Rattle.made.specs.Made.{tables_of}
use Rattle.order.proofs.CountWays.{Counting}
use Rattle.order.proofs.sup_count.Given as goal

abbrev pub invariant-loop : goal.invariant-loop
invariant-loop l = Counting l.header l.count (tables_of l.rows l.letters [] []) l.n l.d l.counter
