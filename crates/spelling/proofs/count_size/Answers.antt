-- `count_size` meets its contract by the loop that `Counting` describes; `rest` falls.
use Rattle.spelling.proofs.Ways.{counting-end}
use Rattle.spelling.proofs.count_size.Goals as goal

pub returns : goal.returns
returns c = counting-end _ _ _ c.loop-rest.invariant c.loop-rest-test.false
