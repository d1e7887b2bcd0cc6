-- `made::judge_rows`: a row that is passed lies in what was left, and so does what it leaves. Assumes nothing.
use Rattle.std.proofs.Common.{arith}
use Rattle.std.proofs.lemmas.Result.{err_from_is_err_and}
use Rattle.made.proofs.JudgeWays.{judged_all, judged_stop, judged_on}
use Rattle.made.proofs.judge_rows.Goals as goal

pub returns-in_err-own : goal.returns-in_err-own
returns-in_err-own c =
    let p = err_from_is_err_and c.from_residual.result c.from_residual.ensures.1 in
    rw (p.1, p.2) (judged_stop _ _ _ _ _ _ c.loop-k.invariant c.loop-k-test.true _ c.judge_row.ensures _ c.in_err-own.was)

pub slice_bounds-left-count : goal.slice_bounds-left-count
slice_bounds-left-count c = (judged_on _ _ _ _ _ _ c.loop-k.invariant c.loop-k-test.true _ c.judge_row.ensures _ c.in_ok-own.was).row

pub slice_bounds-left-start : goal.slice_bounds-left-start
slice_bounds-left-start c = (judged_on _ _ _ _ _ _ c.loop-k.invariant c.loop-k-test.true _ c.judge_row.ensures _ c.in_ok-own.was).row

pub slice_bounds-left-count-in-loop-k : goal.slice_bounds-left-count-in-loop-k
slice_bounds-left-count-in-loop-k c = (judged_on _ _ _ _ _ _ c.loop-k.invariant c.loop-k-test.true _ c.judge_row.ensures _ c.in_ok-own.was).letters

pub slice_bounds-left-start-in-loop-k : goal.slice_bounds-left-start-in-loop-k
slice_bounds-left-start-in-loop-k c = (judged_on _ _ _ _ _ _ c.loop-k.invariant c.loop-k-test.true _ c.judge_row.ensures _ c.in_ok-own.was).letters

pub offset_bounds-left-own : goal.offset_bounds-left-own
offset_bounds-left-own c = record { fits = omega (arith, (judged_on _ _ _ _ _ _ c.loop-k.invariant c.loop-k-test.true _ c.judge_row.ensures _ c.in_ok-own.was).islands) }

pub slice_bounds-left-count-in-loop-k-2 : goal.slice_bounds-left-count-in-loop-k-2
slice_bounds-left-count-in-loop-k-2 c = (judged_on _ _ _ _ _ _ c.loop-k.invariant c.loop-k-test.true _ c.judge_row.ensures _ c.in_ok-own.was).islands

pub slice_bounds-left-start-in-loop-k-2 : goal.slice_bounds-left-start-in-loop-k-2
slice_bounds-left-start-in-loop-k-2 c = (judged_on _ _ _ _ _ _ c.loop-k.invariant c.loop-k-test.true _ c.judge_row.ensures _ c.in_ok-own.was).islands

pub overflow_mul-left : goal.overflow_mul-left
overflow_mul-left c = record { fits = omega (arith, (judged_on _ _ _ _ _ _ c.loop-k.invariant c.loop-k-test.true _ c.judge_row.ensures _ c.in_ok-own.was).points) }

pub offset_bounds-left-own-in-loop-k : goal.offset_bounds-left-own-in-loop-k
offset_bounds-left-own-in-loop-k c = record { fits = omega (arith, (judged_on _ _ _ _ _ _ c.loop-k.invariant c.loop-k-test.true _ c.judge_row.ensures _ c.in_ok-own.was).points) }

pub slice_bounds-left-count-in-loop-k-3 : goal.slice_bounds-left-count-in-loop-k-3
slice_bounds-left-count-in-loop-k-3 c = (judged_on _ _ _ _ _ _ c.loop-k.invariant c.loop-k-test.true _ c.judge_row.ensures _ c.in_ok-own.was).points

pub slice_bounds-left-start-in-loop-k-3 : goal.slice_bounds-left-start-in-loop-k-3
slice_bounds-left-start-in-loop-k-3 c = (judged_on _ _ _ _ _ _ c.loop-k.invariant c.loop-k-test.true _ c.judge_row.ensures _ c.in_ok-own.was).points

pub overflow_add-before : goal.overflow_add-before
overflow_add-before c = record { fits = omega (arith, (judged_on _ _ _ _ _ _ c.loop-k.invariant c.loop-k-test.true _ c.judge_row.ensures _ c.in_ok-own.was).letters, c.loop-k.invariant.letters-in) }

pub overflow_add-before-in-loop-k : goal.overflow_add-before-in-loop-k
overflow_add-before-in-loop-k c = record { fits = omega (arith, (judged_on _ _ _ _ _ _ c.loop-k.invariant c.loop-k-test.true _ c.judge_row.ensures _ c.in_ok-own.was).islands, c.loop-k.invariant.islands-in) }

pub overflow_add-before-in-loop-k-2 : goal.overflow_add-before-in-loop-k-2
overflow_add-before-in-loop-k-2 c = record { fits = omega (arith, (judged_on _ _ _ _ _ _ c.loop-k.invariant c.loop-k-test.true _ c.judge_row.ensures _ c.in_ok-own.was).points, c.loop-k.invariant.points-in) }

pub loop-k-preserved : goal.loop-k-preserved
loop-k-preserved c = (judged_on _ _ _ _ _ _ c.loop-k.invariant c.loop-k-test.true _ c.judge_row.ensures _ c.in_ok-own.was).on

pub returns : goal.returns
returns c = judged_all _ _ _ _ _ _ c.loop-k.invariant c.loop-k-test.false
