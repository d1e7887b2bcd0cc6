-- `cursor::nth` meets its contract: the record wanted is, from the place reached, the one of the number that is left. Assumes nothing.
use mathlib.Core.Path.{sym, ◌∙◌}
use Rattle.std.proofs.lemmas.Result.{err_from_is_err_and}
use Rattle.cursor.proofs.CursorWays.{nth_on, nth-refused, nth_last}
use Rattle.cursor.proofs.nth.Goals as goal

pub returns-in_err-next : goal.returns-in_err-next
returns-in_err-next c =
    let p = err_from_is_err_and c.from_residual.result c.from_residual.ensures.1 in
    rw (p.1, p.2) (nth-refused _ _ _ c.loop.c _ c.loop.invariant c.loop-test.true (sym c.next.ensures.0 ∙ c.in_err-next.was))

pub loop-preserved : goal.loop-preserved
loop-preserved c = nth_on _ _ _ c.loop.c _ c.loop.invariant c.loop-test.true (sym c.next.ensures.0 ∙ c.in_ok-next.was) c.next.ensures.1

pub returns : goal.returns
returns c = c.next-2.ensures.0 ∙ nth_last _ _ _ c.loop.c _ c.loop.invariant c.loop-test.false
