-- `reader::values_into` meets its contract. Assumes nothing.
use Rattle.reader.proofs.RingLaws.{storing-start, storing-kept, storing-end, storing-inside, storing-asks, storing-on}
use native.Mathlib.Omega.{arith}
use Rattle.reader.proofs.ring_runs.values_into.Goals as goal

pub loop-k-init : goal.loop-k-init
loop-k-init c = storing-start c.args.src.now c.args.at c.args.width c.args.n c.args.cell c.args.table.now

pub overflow_add-cell : goal.overflow_add-cell
overflow_add-cell c = omega (arith, storing-inside c.args.src.now c.args.at c.args.width c.args.n c.args.cell c.args.table.now c.requires c.loop-k.k c.loop-k.here c.loop-k.table c.loop-k.invariant c.loop-k-test.true)

pub put_real-requires : goal.put_real-requires
put_real-requires c = storing-asks c.args.src.now c.args.at c.args.width c.args.n c.args.cell c.args.table.now c.requires c.loop-k.k c.loop-k.here c.loop-k.table c.loop-k.invariant c.loop-k-test.true c.usual_value.result c.usual_value.ensures

pub overflow_add-here : goal.overflow_add-here
overflow_add-here c = omega (arith, storing-inside c.args.src.now c.args.at c.args.width c.args.n c.args.cell c.args.table.now c.requires c.loop-k.k c.loop-k.here c.loop-k.table c.loop-k.invariant c.loop-k-test.true)

pub loop-k-preserved : goal.loop-k-preserved
loop-k-preserved c = storing-on c.args.src.now c.args.at c.args.width c.args.n c.args.cell c.args.table.now c.requires c.loop-k.k c.loop-k.here c.loop-k.table c.loop-k.invariant c.loop-k-test.true c.usual_value.result c.usual_value.ensures _ c.put_real.ensures

pub shape_of-table : goal.shape_of-table
shape_of-table c = storing-kept c.args.src.now c.args.at c.args.width c.args.n c.args.cell c.args.table.now c.requires c.loop-k.k c.loop-k.here c.loop-k.table c.loop-k.invariant

pub returns : goal.returns
returns c = storing-end c.args.src.now c.args.at c.args.width c.args.n c.args.cell c.args.table.now c.requires c.loop-k.k c.loop-k.here c.loop-k.table c.loop-k.invariant c.loop-k-test.false
