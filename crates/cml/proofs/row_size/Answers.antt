-- `row_size` meets its contract: the element of a line, or nothing. Assumes nothing.
use Prim.Native.Nat.{◌*◌}
use native.Mathlib.Omega.{arith}
use mathlib.Core.Path.{sym}
use lib.Seq.{length-take-le}
use Rattle.cml.proofs.LineWays.{vertices-asks, element-sum, element-size, is-line, row_sized, row-size-none}
use Rattle.cml.proofs.row_size.Goals as goal

pub slice_bounds-pairs_size-end : goal.slice_bounds-pairs_size-end
slice_bounds-pairs_size-end c = sym (length-take-le (2 * c.count_at-n.result) c.args.points.now (rw c.count_at-n.ensures c.requires.held))

pub pairs_size-pairs-requires : goal.pairs_size-pairs-requires
pairs_size-pairs-requires c = vertices-asks c.args.rows.now c.args.points.now c.requires c.count_at-n.ensures

pub overflow_add-result : goal.overflow_add-result
overflow_add-result c = omega (arith, c.requires.vertices-most, element-sum c.args.rows.now c.args.points.now c.requires (is-line c.args.rows.now c.args.points.now c.requires c.count_at.ensures c.if-count_at-eq-LINE_KIND.true) c.count_at-then-count_at-eq-LINE_KIND.ensures c.digit_count-code.ensures c.count_at-n.ensures c.digit_count-count.ensures c.pairs_size-pairs.ensures)

pub overflow_add-result-then-count_at-eq-LINE_KIND : goal.overflow_add-result-then-count_at-eq-LINE_KIND
overflow_add-result-then-count_at-eq-LINE_KIND c = omega (arith, c.requires.vertices-most, element-sum c.args.rows.now c.args.points.now c.requires (is-line c.args.rows.now c.args.points.now c.requires c.count_at.ensures c.if-count_at-eq-LINE_KIND.true) c.count_at-then-count_at-eq-LINE_KIND.ensures c.digit_count-code.ensures c.count_at-n.ensures c.digit_count-count.ensures c.pairs_size-pairs.ensures)

pub overflow_add-result-then-count_at-eq-LINE_KIND-2 : goal.overflow_add-result-then-count_at-eq-LINE_KIND-2
overflow_add-result-then-count_at-eq-LINE_KIND-2 c = omega (arith, c.requires.vertices-most, element-sum c.args.rows.now c.args.points.now c.requires (is-line c.args.rows.now c.args.points.now c.requires c.count_at.ensures c.if-count_at-eq-LINE_KIND.true) c.count_at-then-count_at-eq-LINE_KIND.ensures c.digit_count-code.ensures c.count_at-n.ensures c.digit_count-count.ensures c.pairs_size-pairs.ensures)

pub returns-then-count_at-eq-LINE_KIND : goal.returns-then-count_at-eq-LINE_KIND
returns-then-count_at-eq-LINE_KIND c = row_sized c.args.rows.now c.args.points.now c.requires c.count_at.ensures c.if-count_at-eq-LINE_KIND.true (element-size c.args.rows.now c.args.points.now c.requires (is-line c.args.rows.now c.args.points.now c.requires c.count_at.ensures c.if-count_at-eq-LINE_KIND.true) c.count_at-then-count_at-eq-LINE_KIND.ensures c.digit_count-code.ensures c.count_at-n.ensures c.digit_count-count.ensures c.pairs_size-pairs.ensures)

pub returns : goal.returns
returns c = row-size-none c.args.rows.now c.args.points.now c.requires c.count_at.ensures c.if-count_at-eq-LINE_KIND.false
