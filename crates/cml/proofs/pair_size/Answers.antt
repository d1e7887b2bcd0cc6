-- `pair_size` meets its contract: a sum. Assumes nothing.
use native.Mathlib.Omega.{arith}
use Rattle.cml.proofs.PairWays.{size-most, pair-sized}
use Rattle.cml.proofs.pair_size.Goals as goal

pub overflow_add-result : goal.overflow_add-result
overflow_add-result c = omega (arith, size-most _ c.requires.0 _ c.bare_size.ensures, size-most _ c.requires.1 _ c.bare_size-2.ensures)

pub returns : goal.returns
returns c = pair-sized _ _ c.requires.0 c.requires.1 _ _ c.bare_size.ensures c.bare_size-2.ensures
