-- `row_length` meets its contract: the counts of a row of right numbers are bounded. Assumes nothing.
use native.Mathlib.Omega.{arith}
use Rattle.writer.specs.Put.{frames}
use Rattle.writer.proofs.RowFacts.{kind-in, outside-in, letters-in, islands-in, vertices-in}
use Rattle.writer.proofs.Sizes.{row_fits, row-summed}
use Rattle.writer.proofs.row_length.Goals as goal

pub offset_bounds-count_at : goal.offset_bounds-count_at
offset_bounds-count_at c = omega (arith, c.count_at.ensures, (kind-in c.args.rows.now c.requires).1)

pub bounds-count_at : goal.bounds-count_at
bounds-count_at c = omega (arith, c.count_at.ensures, (kind-in c.args.rows.now c.requires).1)

pub overflow_add-text : goal.overflow_add-text
overflow_add-text c = omega (arith, c.count_at-2.ensures, c.count_at-3.ensures, outside-in c.args.rows.now c.requires, letters-in c.args.rows.now c.requires)

pub overflow_mul-counts : goal.overflow_mul-counts
overflow_mul-counts c = omega (arith, c.count_at-counts.ensures, islands-in c.args.rows.now c.requires)

pub overflow_mul-vertices : goal.overflow_mul-vertices
overflow_mul-vertices c = omega (arith, c.count_at-vertices.ensures, vertices-in c.args.rows.now c.requires)

pub overflow_add-result : goal.overflow_add-result
unfolding frames
overflow_add-result c = omega (arith, row_fits c.args.rows.now c.requires c.count_at.result c.count_at-2.result c.count_at-3.result c.count_at-counts.result c.count_at-vertices.result c.count_at.ensures c.count_at-2.ensures c.count_at-3.ensures c.count_at-counts.ensures c.count_at-vertices.ensures)

pub overflow_add-result-2 : goal.overflow_add-result-2
unfolding frames
overflow_add-result-2 c = omega (arith, row_fits c.args.rows.now c.requires c.count_at.result c.count_at-2.result c.count_at-3.result c.count_at-counts.result c.count_at-vertices.result c.count_at.ensures c.count_at-2.ensures c.count_at-3.ensures c.count_at-counts.ensures c.count_at-vertices.ensures)

pub overflow_add-result-3 : goal.overflow_add-result-3
unfolding frames
overflow_add-result-3 c = omega (arith, row_fits c.args.rows.now c.requires c.count_at.result c.count_at-2.result c.count_at-3.result c.count_at-counts.result c.count_at-vertices.result c.count_at.ensures c.count_at-2.ensures c.count_at-3.ensures c.count_at-counts.ensures c.count_at-vertices.ensures)

pub returns : goal.returns
unfolding frames
returns c = row-summed c.args.rows.now c.requires c.count_at.result c.count_at-2.result c.count_at-3.result c.count_at-counts.result c.count_at-vertices.result c.count_at.ensures c.count_at-2.ensures c.count_at-3.ensures c.count_at-counts.ensures c.count_at-vertices.ensures
