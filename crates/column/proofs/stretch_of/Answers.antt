-- `stretch_of` meets its contract: the ways are in `ColumnWays`. Assumes nothing.
use borrow.Author.Rules.{rules}
use Rattle.column.proofs.ColumnWays.{stretch_ways}
use Rattle.column.proofs.stretch_of.Goals as goal

pub returns-then-is_stuck : goal.returns-then-is_stuck
returns-then-is_stuck c = search (stretch_ways, rules)
