-- `pass` meets its contract: see `Passing`. Assumes nothing.
use Rattle.sorting.proofs.SortedLaws.{exchanges-length}
use Rattle.sorting.proofs.SinkLaws.{passing-start, passing-in, passing-on, passing-end}
use Rattle.sorting.proofs.pass.Goals as goal

pub loop-i-init : goal.loop-i-init
loop-i-init c = passing-start _ _

pub sink-requires : goal.sink-requires
sink-requires c = (c.requires.0, passing-in c.loop-i.invariant _ c.requires.1 c.loop-i-test.true)

pub loop-i-preserved : goal.loop-i-preserved
loop-i-preserved c = passing-on c.loop-i.invariant c.sink.ensures.exchanges c.sink.ensures.in_order

pub shape_of-s : goal.shape_of-s
shape_of-s c = exchanges-length c.loop-i.invariant.mixed

pub returns : goal.returns
returns c = record { exchanges = c.loop-i.invariant.mixed; in_order = passing-end c.loop-i.invariant _ c.loop-i-test.false }
