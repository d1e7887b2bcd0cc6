-- `balance_in` meets its contract: two figures of the file differ by little. Assumes nothing.
use Rattle.supcheck.proofs.AllowingWays.{balance-fits, balance-known}
use Rattle.supcheck.proofs.balance_in.Goals as goal

pub overflow_sub-result : goal.overflow_sub-result
overflow_sub-result c = balance-fits _ _ _ _ c.line_from.ensures c.line_from-2.ensures _ _ c.figure_in-total.ensures c.figure_in-confine.ensures

pub returns : goal.returns
returns c = balance-known _ _ _ _ c.line_from.ensures c.line_from-2.ensures _ _ c.figure_in-total.ensures c.figure_in-confine.ensures
