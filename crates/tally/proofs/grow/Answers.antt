-- `tally::grow` meets its contract: four figures are judged together, then stored. Assumes nothing.
use mathlib.Core.Bool.{not}
use mathlib.Core.Path.{ap}
use native.Mathlib.Omega.{arith}
use borrow.Author.Rules.{rules}
use Rattle.tally.proofs.AddWays.{index-most, grow-figures, grow-not, grow_first, grow-second, grow-count, grow-third, grow-fourth, grow-is}
use Rattle.tally.proofs.grow.Goals as goal

pub overflow_mul-k : goal.overflow_mul-k
overflow_mul-k c = omega (arith, index-most c.args.border.class c.index_of-k.ensures)

pub offset_bounds-figures-k : goal.offset_bounds-figures-k
offset_bounds-figures-k c = omega (arith, index-most c.args.border.class c.index_of-k.ensures)

pub bounds-figures-k : goal.bounds-figures-k
bounds-figures-k c = omega (arith, index-most c.args.border.class c.index_of-k.ensures)

pub overflow_add-b : goal.overflow_add-b
overflow_add-b c = omega (arith, index-most c.args.border.class c.index_of-k.ensures)

pub offset_bounds-figures-k-2 : goal.offset_bounds-figures-k-2
offset_bounds-figures-k-2 c = omega (arith, index-most c.args.border.class c.index_of-k.ensures)

pub bounds-figures-k-2 : goal.bounds-figures-k-2
bounds-figures-k-2 c = omega (arith, index-most c.args.border.class c.index_of-k.ensures)

pub overflow_add-c : goal.overflow_add-c
overflow_add-c c = omega (arith, index-most c.args.border.class c.index_of-k.ensures)

pub offset_bounds-figures-k-3 : goal.offset_bounds-figures-k-3
offset_bounds-figures-k-3 c = omega (arith, index-most c.args.border.class c.index_of-k.ensures)

pub bounds-figures-k-3 : goal.bounds-figures-k-3
bounds-figures-k-3 c = omega (arith, index-most c.args.border.class c.index_of-k.ensures)

pub overflow_add-d : goal.overflow_add-d
overflow_add-d c = omega (arith, index-most c.args.border.class c.index_of-k.ensures)

pub offset_bounds-figures-k-4 : goal.offset_bounds-figures-k-4
offset_bounds-figures-k-4 c = omega (arith, index-most c.args.border.class c.index_of-k.ensures)

pub bounds-figures-k-4 : goal.bounds-figures-k-4
bounds-figures-k-4 c = omega (arith, index-most c.args.border.class c.index_of-k.ensures)

pub are_fit-requires : goal.are_fit-requires
are_fit-requires c = grow-figures c.args.figures.now c.index_of-k.result c.args.border c.index_of-k.ensures c.requires c.args.areas.outer c.args.areas.inner (search rules) (search rules) (search rules) (search rules)

pub returns-then-not-are_fit : goal.returns-then-not-are_fit
returns-then-not-are_fit c = grow-not c.args.figures.now c.index_of-k.result c.args.border c.index_of-k.ensures c.requires c.args.areas.outer c.args.areas.inner (search rules) (search rules) (search rules) (search rules) (search rules) (search rules) c.are_fit.ensures (ap not c.if-not-are_fit.true)

pub overflow_add-figures : goal.overflow_add-figures
overflow_add-figures c = grow_first c.args.figures.now c.index_of-k.result c.args.border c.index_of-k.ensures c.requires c.args.areas.outer c.args.areas.inner (search rules) (search rules) (search rules) (search rules) (search rules) (search rules) c.are_fit.ensures (ap not c.if-not-are_fit.false)

pub offset_bounds-figures-k-5 : goal.offset_bounds-figures-k-5
offset_bounds-figures-k-5 c = omega (arith, index-most c.args.border.class c.index_of-k.ensures)

pub bounds-figures-k-5 : goal.bounds-figures-k-5
bounds-figures-k-5 c = omega (arith, index-most c.args.border.class c.index_of-k.ensures)

pub overflow_add-figures-2 : goal.overflow_add-figures-2
overflow_add-figures-2 c = grow-second c.args.figures.now c.index_of-k.result c.args.border c.index_of-k.ensures c.requires c.args.areas.outer c.args.areas.inner (search rules) (search rules) (search rules) (search rules) (search rules) (search rules) c.are_fit.ensures (ap not c.if-not-are_fit.false)

pub overflow_add-figures-3 : goal.overflow_add-figures-3
overflow_add-figures-3 c = omega (arith, index-most c.args.border.class c.index_of-k.ensures)

pub offset_bounds-figures-k-6 : goal.offset_bounds-figures-k-6
offset_bounds-figures-k-6 c = omega (arith, index-most c.args.border.class c.index_of-k.ensures)

pub bounds-figures-k-6 : goal.bounds-figures-k-6
bounds-figures-k-6 c = omega (arith, index-most c.args.border.class c.index_of-k.ensures)

pub overflow_cast-figures : goal.overflow_cast-figures
overflow_cast-figures c = grow-count c.args.figures.now c.index_of-k.result c.args.border c.index_of-k.ensures c.requires c.args.areas.outer c.args.areas.inner (search rules) (search rules) (search rules) (search rules) (search rules) (search rules) c.are_fit.ensures (ap not c.if-not-are_fit.false)

pub overflow_add-figures-4 : goal.overflow_add-figures-4
overflow_add-figures-4 c = grow-third c.args.figures.now c.index_of-k.result c.args.border c.index_of-k.ensures c.requires c.args.areas.outer c.args.areas.inner (search rules) (search rules) (search rules) (search rules) (search rules) (search rules) c.are_fit.ensures (ap not c.if-not-are_fit.false)

pub overflow_add-k : goal.overflow_add-k
overflow_add-k c = omega (arith, index-most c.args.border.class c.index_of-k.ensures)

pub offset_bounds-figures-k-7 : goal.offset_bounds-figures-k-7
offset_bounds-figures-k-7 c = omega (arith, index-most c.args.border.class c.index_of-k.ensures)

pub bounds-figures-k-7 : goal.bounds-figures-k-7
bounds-figures-k-7 c = omega (arith, index-most c.args.border.class c.index_of-k.ensures)

pub overflow_add-figures-5 : goal.overflow_add-figures-5
overflow_add-figures-5 c = grow-fourth c.args.figures.now c.index_of-k.result c.args.border c.index_of-k.ensures c.requires c.args.areas.outer c.args.areas.inner (search rules) (search rules) (search rules) (search rules) (search rules) (search rules) c.are_fit.ensures (ap not c.if-not-are_fit.false)

pub overflow_add-k-2 : goal.overflow_add-k-2
overflow_add-k-2 c = omega (arith, index-most c.args.border.class c.index_of-k.ensures)

pub offset_bounds-figures-k-8 : goal.offset_bounds-figures-k-8
offset_bounds-figures-k-8 c = omega (arith, index-most c.args.border.class c.index_of-k.ensures)

pub bounds-figures-k-8 : goal.bounds-figures-k-8
bounds-figures-k-8 c = omega (arith, index-most c.args.border.class c.index_of-k.ensures)

pub returns : goal.returns
returns c = grow-is c.args.figures.now c.index_of-k.result c.args.border c.index_of-k.ensures c.requires c.args.areas.outer c.args.areas.inner (search rules) (search rules) (search rules) (search rules) (search rules) (search rules) c.are_fit.ensures (ap not c.if-not-are_fit.false)
