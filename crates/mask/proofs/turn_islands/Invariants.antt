-- `mask::turn_islands` meets its contract: its loop. Assumes nothing.
use Rattle.mask.proofs.TurnWays.{Islanding}
use Rattle.mask.proofs.turn_islands.Given as goal

abbrev pub invariant-loop-size : goal.invariant-loop-size
invariant-loop-size l = Islanding l.rows l.points l.from l.sizes l.cx l.cy l.cell l.at l.size-index
