-- `order::first_long` meets its contract: none of the rows behind has one. Assumes nothing.
use mathlib.Core.List.{[]}
use Rattle.made.specs.Made.{tables_of}
use Rattle.order.proofs.LongWays.{looking-start, looking-found, looking-on, looking-end}
use Rattle.order.proofs.first_long.Goals as goal

pub loop-k-init : goal.loop-k-init
loop-k-init c = looking-start c.args.header c.args.count (tables_of c.args.rows.now c.args.letters.now [] []) c.first_stand-d.result c.first_stand-d.ensures

pub returns-then-is_long : goal.returns-then-is_long
returns-then-is_long c = looking-found c.loop-k.invariant c.loop-k-test.true _ c.is_long.ensures c.if-is_long.true

pub loop-k-preserved : goal.loop-k-preserved
loop-k-preserved c = looking-on c.loop-k.invariant c.loop-k-test.true _ c.is_long.ensures c.if-is_long.false c.stand_next-d.result c.stand_next-d.ensures

pub returns : goal.returns
returns c = looking-end c.loop-k.invariant c.loop-k-test.false
