-- `order::first_long` meets its contract: none of the rows behind has one. Assumes nothing.
use mathlib.Core.List.{[]}
use Rattle.made.specs.Made.{tables_of}
use Rattle.order.proofs.LongWays.{Looking}
use Rattle.order.proofs.first_long.Given as goal

abbrev pub invariant-loop-k : goal.invariant-loop-k
invariant-loop-k l = Looking l.header l.count (tables_of l.rows l.letters [] []) l.d l.k
